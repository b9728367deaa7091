-- What a command comes to.
use Rattle.std.specs.Prelude.{ℕ, ◌≡◌, ◌≤◌, List, [], ◌++◌, Vec, vec_capacity, Result, Ok, Err}
use Rattle.std.specs.declared.alloc.Global.{Global}
use Rattle.zone_state.specs.declared.status.Status.{Status}
use Rattle.zone_state.specs.declared.status.TheConstants.Status.{SUCCESS}
use Rattle.tcp_admin.specs.declared.answer.Answer.{Answer}
use Rattle.tcp_admin.specs.declared.answer.Answer.TheVariants.{Completed}
use Rattle.tcp_admin.specs.declared.controller.Controller.{Controller}

abbrev pub succeeded : ℕ → Answer
succeeded dw0 = Completed (record { status = SUCCESS; dw0 = dw0; dw1 = 0 })

abbrev pub refused : Status → Answer
refused status = Completed (record { status = status; dw0 = 0; dw1 = 0 })

-- it succeeds, and tells a number, or is refused
abbrev pub told : Result ℕ Status → Answer
told (Ok dw0) = succeeded dw0
told (Err status) = refused status

-- it succeeds, and gives data, or is refused
abbrev pub given : Result (List ℕ) Status → Answer
given (Ok bytes) = succeeded 0
given (Err status) = refused status

abbrev pub data_of : Result (List ℕ) Status → List ℕ
data_of (Ok bytes) = bytes
data_of (Err status) = []

-- what a command comes to: the controller behind it, its answer, and data
pub record Response : Type 0 where
  pub controller : Controller
  pub answer : Answer
  pub «data» : List ℕ

-- the controller and a number,
abbrev pub tells : Controller → Result ℕ Status → Response
tells c dw0 = record { controller = c; answer = told dw0; «data» = [] }

-- or data
abbrev pub gives : Controller → Result (List ℕ) Status → Response
gives c bytes = record { controller = c; answer = given bytes; «data» = data_of bytes }

-- data is added to what is given out
pub record Adds (old new : Vec ℕ Global) (bytes : List ℕ) : Type 0 where
  pub added : new.items ≡ old.items ++ bytes
  pub room : vec_capacity old ≤ vec_capacity new
