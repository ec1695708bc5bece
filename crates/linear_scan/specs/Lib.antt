pub mod Allotted
pub use Rattle.scan_pass.specs.Scanned
pub use Rattle.scan_settle.specs.mir_type_facts as mir_type_facts
pub use Rattle.scan_allot.specs.pass_losses as pass_losses
pub use Rattle.scan_pass.specs as scan_pass
