pub mod ScriptLemmas
pub mod ScriptPassing
pub mod ScriptReporting
pub mod ActsLemmas
pub mod Counted
pub mod ScriptsLemmas
