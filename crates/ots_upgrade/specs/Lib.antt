pub use Rattle.ots_asking.specs.Conversation
pub use Rattle.ots_asking.specs.Outcome
pub use Rattle.ots_stamp.specs.Stamping
pub mod AskedList
pub mod Upgrading
