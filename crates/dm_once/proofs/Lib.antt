-- Chunks that were once live.
pub mod SidesAlong
pub mod OnceParts
pub mod ContentsStay
pub mod OncePlans
pub mod DaemonRequests
pub mod OnceVolumes
pub mod OnceAlong
-- mounts of volumes that the tables hadn't
pub mod MissingParts
pub mod MissingMakes
pub mod MissingAlong
-- bitfiles that a group hasn't
pub mod AwayParts
pub mod AwayAlong
