-- runs
pub mod Runs
pub mod EventsKept
pub mod RunsJoined
-- images
pub mod ImagesStay
pub mod ImagesKept
-- sums
pub mod Contained
pub mod SummedSides
pub mod SummedParts
pub mod SummedPlans
pub mod SummedEvents
pub mod SumsTell
pub mod ReadsTold
-- what the laws have in common
pub mod RunsEnd
pub mod PayloadsFollow
pub mod FoundThere
pub mod PastStays
