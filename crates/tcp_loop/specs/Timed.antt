-- What a loop has counted of time, at each phase.
use Rattle.std.specs.Prelude.{ℕ, ◌≡◌, ◌<◌, ◌+◌, ◌*◌, Bool, true, false, Option, Some, None, if◌then◌else◌}
use Rattle.tcp_loop.specs.Times.{gone}
use Rattle.tcp_loop.specs.Kept.{Answered, Attending, Begun, Called, Due, Pending, Phase, Resting, Settled, Told}
use Rattle.tcp_loop.specs.declared.clock.Clock.{Clock}

-- how much isn't told, at most
abbrev pub most_untold : Phase → ℕ
most_untold Resting = 1000000
most_untold (Attending from) = 1000000
most_untold Begun = 1000000
most_untold _ = 2000000

-- the clock's last time is the trace's, where that counts
abbrev pub IsLast : Bool → ℕ → Clock → Type 0
IsLast for_file last clock = clock.last ≡ (if for_file then 0 else last)

abbrev pub LastIs : Phase → Bool → ℕ → Clock → Type 0
LastIs Resting for_file last clock = IsLast for_file last clock
LastIs (Attending from) for_file last clock = IsLast for_file last clock
LastIs Begun for_file last clock = IsLast for_file last clock
LastIs Due for_file last clock = IsLast for_file last clock
LastIs Pending for_file last clock = IsLast for_file last clock
LastIs Settled for_file last clock = IsLast for_file last clock
LastIs Answered for_file last clock = for_file ≡ true
LastIs Told for_file last clock = for_file ≡ true
LastIs Called for_file last clock = for_file ≡ true
LastIs _ for_file last clock = Unit {0}

-- so much was counted of a trace, so many milliseconds were ticked, and the rest isn't told yet
pub record IsTimed (phase : Phase) (counted ticked : ℕ) (for_file : Bool) (last : ℕ) (clock : Clock) : Type 0 where
  pub counts : counted ≡ ticked * 1000 + clock.untold
  pub few : clock.untold < most_untold phase
  pub last_is : LastIs phase for_file last clock

-- the time was asked for at which hosts were read
abbrev pub IsCounted : Option ℕ → Clock → Clock → Type 0
IsCounted (Some now) old new =
    (new.last ≡ now) × (old.untold < 1000000 → (new.untold ≡ old.untold + gone false old.last now) × (new.untold < 2000000))
IsCounted None old new = new ≡ old

-- the time was asked for at which the file's calls ended
abbrev pub IsSkipped : Option ℕ → Clock → Clock → Type 0
IsSkipped (Some now) old new = (new.last ≡ now) × (new.untold ≡ old.untold)
IsSkipped None old new = (new.last ≡ 0) × (new.untold ≡ old.untold)
