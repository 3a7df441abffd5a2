pub mod GuardsGrow
pub mod EventsGrow
pub mod DoneGrows
pub mod NeedsMet
pub mod PulledLawful
