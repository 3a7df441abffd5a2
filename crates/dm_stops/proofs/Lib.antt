-- stops
pub mod Restarted
pub mod StopKept
-- opened states
pub mod NothingOpen
pub mod OpenedKept
pub mod EmptyOpened
pub mod ExampleSides
pub mod ExampleOpened
