-- What keeps a device in a file: its calls.
use Rattle.std.specs.Prelude.{ℕ, ◌≡◌, ◌⊎◌, Bool, true, false, List, [], ◌∷◌, Option, Some, None}
use Rattle.stored_file.specs.File.{MayLeave}
use Rattle.stored_file.specs.Calls as calls
use Rattle.stored_file.specs.Calls.{told_of}
use Rattle.tcp_loop.specs.Deeds.{Meaning}
use Rattle.tcp_loop.specs.Disk.{is_there}
use Rattle.tcp_loop.specs.declared.target.Call.{Call}
use Rattle.tcp_loop.specs.declared.target.Call.TheVariants.{Replace, Renew, Shorten, Sync, Want, Write}

-- the calls that are told as done, with those by which the file was opened, of which the last stands first; those that are to be made, in
-- order; and the bytes of the first of these
pub record Keeping : Type 0 where
  pub made : List calls.Call
  pub waits : List calls.Call
  pub bytes : List ℕ

-- a target with its device, in a state, and what keeps it
pub record KeptState (State : Type 0) : Type 0 where
  pub state : State
  pub file : Keeping

-- a call with its bytes, once it is done
abbrev pub done_call : Call → List ℕ → calls.Call
done_call (Write «at») bytes = calls.Written «at» bytes true
done_call (Renew «at») bytes = calls.Renewed «at» bytes true
done_call (Shorten len) bytes = calls.Shortened len true
done_call Sync bytes = calls.Synced true
done_call Replace bytes = calls.Replaced bytes true
done_call Want bytes = calls.NotReplaced

-- is a new file made for a call? And is that only wanted?
abbrev pub wanted_by : Call → Option Bool
wanted_by Replace = Some false
wanted_by Want = Some true
wanted_by _ = None

-- the call for a new file of these bytes, once it is done
abbrev pub new_call : Bool → List ℕ → calls.Call
new_call true bytes = calls.NotReplaced
new_call false bytes = calls.Replaced bytes true

-- are a call's bytes there already, of a file of which these bytes are read, where they are to be?
abbrev pub IsThere : Call → List ℕ → List ℕ → Type 0
IsThere (Renew «at») bytes seen = is_there «at» bytes seen ≡ true
IsThere _ bytes seen = Unit {0}

module _ {State : Type 0} (m : Meaning State) where
  -- this is the next call
  pub record IsNext (call : Call) (file : Keeping) : Type 0 where
    pub rest : List calls.Call
    pub waits : file.waits ≡ done_call call file.bytes ∷ rest
    pub is_there : IsThere call file.bytes (told_of m.may_be_left file.made).seen

  -- a call that waits is told as done
  abbrev pub IsToldDone : Keeping → Keeping → Type 0
  IsToldDone old new = (call : calls.Call) (rest : List calls.Call) → old.waits ≡ call ∷ rest
      → (new.waits ≡ rest) × (new.made ≡ call ∷ old.made)

  -- what a crash leaves after some calls has P
  abbrev pub Leaves : List calls.Call → (List ℕ → Type 0) → Type 0
  Leaves made P = (c : List ℕ) → MayLeave (told_of m.may_be_left made) c → P c

  -- while the calls are made that wait, after others that were made, a crash leaves the state before or the one after; and once they are
  -- made, the one after
  abbrev pub Covers : List calls.Call → List calls.Call → State → State → Type 0
  Covers [] made before after = Leaves made (λ c. m.stands_for c after)
  Covers (call ∷ waits) made before after =
      Leaves made (λ c. m.stands_for c before ⊎ m.stands_for c after) × Covers waits (call ∷ made) before after

  -- no call waits, and a crash leaves this state
  pub record IsSettled (file : Keeping) (s : State) : Type 0 where
    pub none : file.waits ≡ []
    pub left : Leaves file.made (λ c. m.stands_for c s)

  -- what was done since a state is committed, once the calls are made that wait
  pub record IsCommitted (old new : KeptState State) : Type 0 where
    pub made : new.file.made ≡ old.file.made
    pub covers : (before : State) → IsSettled old.file before → Covers new.file.waits new.file.made before old.state

  -- the new file that was wanted takes the place of the old one, or doesn't
  pub record IsFolded (is_put : Bool) (old new : KeptState State) : Type 0 where
    pub made : new.file.made ≡ old.file.made
    pub put : (rest : List calls.Call) → old.file.waits ≡ calls.NotReplaced ∷ rest → is_put ≡ true
        → (more : List calls.Call) × (new.file.waits ≡ calls.NotReplaced ∷ calls.Replaced old.file.bytes true ∷ more)
    pub not_put : (rest : List calls.Call) → old.file.waits ≡ calls.NotReplaced ∷ rest → is_put ≡ false
        → (more : List calls.Call) × (new.file.waits ≡ calls.NotReplaced ∷ more)
    pub covers : (before : State) → Covers old.file.waits old.file.made before old.state
        → Covers new.file.waits new.file.made before old.state
