pub mod CopyLaws
pub mod RouteLaws
pub mod RowLaws
pub mod SplitLaws
