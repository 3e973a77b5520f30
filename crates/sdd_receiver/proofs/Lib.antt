mod All
pub mod Lists
pub mod Receives
pub mod Results
pub mod Tops
pub mod Turns
