-- What a target is asked for so that its loop is fair to hosts.
use Rattle.std.specs.Prelude.{ℕ, ◌≡◌, ◌<◌, Bool, true, false, ◌==◌, ◌||◌, Option, Some, None, if◌then◌else◌}
use Rattle.tcp_loop.specs.Deeds.{Closed, Deed, Meaning, Opened, Sent}
use Rattle.tcp_loop.specs.Law.{IsFrontOf}

-- is a connection there at a place after a deed, where one was or wasn't before?
abbrev pub there_after : ℕ → Deed → Bool → Bool
there_after place (Opened other) before = if place == other then true else before
there_after place (Closed other) before = if place == other then false else before
there_after place _ before = before

-- does a deed take away what is to be sent on a connection?
abbrev pub takes_away : ℕ → Deed → Bool
takes_away place (Opened other) = place == other
takes_away place (Closed other) = place == other
takes_away place (Sent other count) = place == other
takes_away place _ = false

module _ {State : Type 0} (m : Meaning State) (free : State → Option ℕ) where
  pub record IsOrderly : Type 0 where
    pub is_there : ℕ → State → Bool
    -- a connection is there from its beginning to its end
    pub stays : (deed : Deed) (old new : State) → m.does deed old new → (place : ℕ) → place < 40
        → is_there place new ≡ there_after place deed (is_there place old)
    -- what is to be sent on it is sent, and else only grows
    pub grows : (deed : Deed) (old new : State) → m.does deed old new → (place : ℕ) → place < 40 → takes_away place deed ≡ false
        → IsFrontOf (m.to_send place old) (m.to_send place new)
    -- a number is free that no connection has; and one is where not all are taken, or held for what is still done of a connection's that
    -- is closed
    pub is_held : ℕ → State → Bool
    pub is_free : (s : State) (place : ℕ) → free s ≡ Some place → is_there place s ≡ false
    pub none_free : (s : State) → free s ≡ None → (place : ℕ) → place < 40 → (is_there place s || is_held place s) ≡ true

  -- connections are as they were, and what is to be sent on them has only grown
  pub record HasGrown (o : IsOrderly) (old new : State) : Type 0 where
    pub there : (place : ℕ) → place < 40 → o.is_there place new ≡ o.is_there place old
    pub front : (place : ℕ) → place < 40 → IsFrontOf (m.to_send place old) (m.to_send place new)
