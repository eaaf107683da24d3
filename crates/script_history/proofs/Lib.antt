-- A script of the runner is a history; until a setup is accepted it changes nothing.
pub mod Scripts
pub mod Before
