pub mod AsUpgraded
