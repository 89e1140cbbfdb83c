pub mod AsksInTurn
pub mod RepliesAhead
pub mod NextWindowStep
pub mod DeskHandsOut
pub mod WindowAsks
pub mod WholeWindow
pub mod GapLaw
pub mod LinksAtDesks
pub mod StepsAddUp
pub mod BatchReplies
pub mod QuietReplies
pub mod QuietWindow
pub mod SaidInTurn
pub mod LinkAnswers
pub mod WindowRests
pub mod LanesHandOn
pub mod StepHandedOn
pub mod ToldInTurn
pub mod LinkTells
mod ShownInTurn
mod WindowShown
