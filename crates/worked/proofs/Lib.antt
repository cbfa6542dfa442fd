mod Stamps
mod SampleFile
mod Questions
mod Handovers
mod SampleSheet
