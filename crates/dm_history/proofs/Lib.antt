-- names
pub mod NamesTold
-- pasts
pub mod PastsRun
-- what events change
pub mod PartsStay
pub mod PlansTold
pub mod EventsTold
-- what decides what they make
pub mod PartsGo
pub mod PlansSame
pub mod MadeSet
pub mod EventsDecided
-- what pasts agree on
pub mod GroupsStay
pub mod PastsAlike
