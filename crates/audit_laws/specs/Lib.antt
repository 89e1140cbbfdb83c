pub mod RunLevels
