mod FromBeginnings
mod Machines
mod NextTurns
mod OtherEvents
mod TurnsTaken
mod UnderWay
mod Waiting
mod WithoutTurns
