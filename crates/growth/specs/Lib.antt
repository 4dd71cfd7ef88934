pub mod RunningBox
pub mod Growth
pub mod Devices
