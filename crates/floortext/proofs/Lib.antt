mod Floors
mod Bounds
mod Floorplans
