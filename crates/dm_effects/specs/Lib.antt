pub mod OfDaemon
