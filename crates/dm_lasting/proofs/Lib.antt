-- How a copy comes to be stored.
pub mod StoredBy
pub mod Planned
pub mod EventsStore
pub mod PutsBegin
pub mod RequestsNew
pub mod NumbersRise
