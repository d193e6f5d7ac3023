pub mod Find
pub mod Mark
pub mod Look
pub mod Standing
pub mod Path
