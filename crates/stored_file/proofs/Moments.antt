-- How a run of calls goes on.
use Rattle.std.proofs.Common.{◌≡◌, ◌≤◌, ◌+◌, inl, inr, ⊎_elim, ℕ, List, length, max, take, refl, sym, ◌∙◌, arith}
use Rattle.std.proofs.lemmas.List.{take_all}
use Rattle.stored_file.specs.File.{FileState, MayLeave, Elapses, LeavesOnly, Torn, Cut}

-- before the first call
pub started : (old : FileState) (P : List ℕ → Type 0) → ((c : List ℕ) → MayLeave old c → P c) → LeavesOnly old old P
started old P here = record { later = omega arith; each = here; before = λ t c le left. inl left; made = refl }

-- one step after another
pub then_on : (old mid new : FileState) (P : List ℕ → Type 0) → LeavesOnly old mid P → LeavesOnly mid new P → LeavesOnly old new P
then_on old mid new P first second = record {
  later = omega (arith, first.later, second.later);
  each = λ c left. ⊎_elim (first.each c) (λ now. now) (second.before old.moment c first.later left);
  before = λ t c le left. ⊎_elim (first.before t c le) (λ now. inr now) (second.before t c (omega (arith, le, first.later)) left);
  made = second.made ∙ first.made;
}

-- what has P has Q
pub weaken : (old new : FileState) (P Q : List ℕ → Type 0) → LeavesOnly old new P → ((c : List ℕ) → P c → Q c) → LeavesOnly old new Q
weaken old new P Q only so = record {
  later = only.later;
  each = λ c left. so c (only.each c left);
  before = λ t c le left. ⊎_elim (λ was. inl was) (λ now. inr (so c now)) (only.before t c le left);
  made = only.made;
}

-- one call more, after which a crash leaves what has P
pub goes_on : (old mid new : FileState) (P : List ℕ → Type 0) → LeavesOnly old mid P → Elapses mid new → ((c : List ℕ) → MayLeave new c → P c) → LeavesOnly old new P
goes_on old mid new P so_far time here = record {
  later = omega (arith, so_far.later, time.later);
  each = λ c left. ⊎_elim (so_far.each c) (here c) (time.nothing_else old.moment c so_far.later left);
  before = λ t c le left. ⊎_elim (so_far.before t c le) (λ now. inr (here c now)) (time.nothing_else t c (omega (arith, le, so_far.later)) left);
  made = time.made ∙ so_far.made;
}
