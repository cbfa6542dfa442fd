pub mod Floor
pub mod Floorplan
