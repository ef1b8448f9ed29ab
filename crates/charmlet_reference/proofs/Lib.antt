pub mod PlainWorlds
pub mod Readings
pub mod RisingMaps
pub mod Upgrades
pub mod RecoveryLemmas
