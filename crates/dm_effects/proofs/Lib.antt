-- What the parts of a plan besides its record do to the invariant, a file for each kind of part.

-- a group's side: heals, doubts, stops
pub mod Uses
pub mod Settled
pub mod Stopped
-- a group's side: what is spent
pub mod Copies
pub mod ReservationEnded
pub mod MountEnded
pub mod MoveEnded
pub mod CopyEnded
-- a group's side: what is made
pub mod MountOpened
pub mod CopyOpened
pub mod ReuseOpened
-- a group's side: what is left on a volume
pub mod ImagesChanged
pub mod SourceMarked
pub mod ZoneMarked
pub mod LabelMarked
pub mod TargetMarked
-- requests and recalls of the daemon
pub mod RequestsEnded
pub mod SidesRequests
pub mod RequestsOpened
pub mod RecallsKeep
pub mod PutEnded
pub mod PutOpened
-- the daemon's calls
pub mod DaemonCalls
pub mod RecallCalls
pub mod PutCalls
pub mod BeginningCalls
pub mod DaemonKept
pub mod DaemonEvents
