pub mod ScriptHistory
pub mod Before
