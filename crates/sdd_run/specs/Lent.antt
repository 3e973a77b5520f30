-- A class list as it is lent to a world.
use Rattle.sdd_progress.specs.obligations.site_module.SiteLog.{Era}
use Rattle.sdd_schedule.specs.declared.schedule.ClassList.{ClassList}

abbrev pub era_of_list : ClassList → Era
era_of_list list = record { catalogue = list.catalogue.now; table = list.table.now }
