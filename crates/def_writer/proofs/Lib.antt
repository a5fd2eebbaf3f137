pub mod SeenSteps
pub mod PlainPins
pub mod StepElements
pub mod PlanElements
pub mod MovesErased
pub mod Behind
pub mod WrittenDesign
pub mod Examples
