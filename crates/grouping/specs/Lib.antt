pub mod Draft
pub mod Plan
pub mod Laws
