pub mod Image
pub mod Machine
pub mod MachineStep
pub mod Headline
pub mod HeadlineLaws
pub mod Exact
