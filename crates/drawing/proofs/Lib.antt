pub mod DrawnViews
pub mod StepCounts
pub mod ScanLaws
pub mod DrawLaws
