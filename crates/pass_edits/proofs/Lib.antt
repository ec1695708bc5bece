pub mod Loose
pub mod Edited
pub mod MovedNumbers
pub mod Numbers
pub mod Onward
pub mod Sound
pub mod Around
pub mod Others
pub mod Copies
pub mod Under
pub mod Found
pub mod ToPhi
pub mod ToCode
pub mod Entered
pub use Rattle.pass_salvage.proofs.sem_agreement as sem_agreement
