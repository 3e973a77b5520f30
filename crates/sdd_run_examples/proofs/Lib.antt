mod Alike
mod AtPlaces
mod Crossing
mod Disturbed
mod FreeBeside
