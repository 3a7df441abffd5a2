mod EntriesStill
mod TablesStay
mod PartsAsk
mod PlansAsk
pub mod EventsAsk
pub mod DoneStays
