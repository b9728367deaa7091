-- What files stand for, while a batch is added and when they are opened.
use Rattle.std.proofs.Common.{◌≡◌, arith, ◌≤◌, ℕ, Bool, false, List, [], ◌∷◌, ◌++◌, length, take, refl, sym, ◌∙◌, ap, subst, append_assoc, length-append}
use Rattle.std.proofs.lemmas.List.{append-nil, take_at}
use Rattle.std.proofs.lemmas.List.Sums.{fold-append}
use Rattle.stored_file.specs.File.{FileState, IsAsBefore, MayLeave, IsWhole, LeavesOnly}
use Rattle.stored_file.proofs.Moments.{started}
use Rattle.durable_machine.specs.Journal.{StandsFor}
use Rattle.durable_machine.proofs.Frames.{one_meaning, frames_whole}
use Rattle.durable_machine.proofs.Steps.{at_rest, rests_as_before}
use Rattle.durable_machine.specs.Runs.{state_again}
use Rattle.durable_machine.specs.Files.{IsFront, IsStateAt, IsState, KeepsState, IsDurable, joined, whole_sectors}

pub joined-append : (xs ys : List (List (List ℕ))) → joined (xs ++ ys) ≡ joined xs ++ joined ys
joined-append [] ys = refl
joined-append (x ∷ xs) ys = ap (λ (l : List (List ℕ)). x ++ l) (joined-append xs ys) ∙ sym (append_assoc x (joined xs) (joined ys))

-- one batch more leads on
pub again-push : {S : Type 0} (next : S → Bool → List ℕ → S) (batches : List (List (List ℕ))) (batch : List (List ℕ)) (first mid new : S) → mid ≡ state_again next (joined batches) first → new ≡ state_again next batch mid
    → new ≡ state_again next (joined (batches ++ batch ∷ [])) first
again-push next batches batch first mid new before by =
    by ∙ ap (λ (s : _). state_again next batch s) before
    ∙ sym (fold-append (λ (s : _) (event : List ℕ). next s false event) first (joined batches) batch)
    ∙ ap (λ (es : List (List ℕ)). state_again next es first) (ap (λ (l : List (List ℕ)). joined batches ++ l) (sym (append-nil batch)) ∙ sym (joined-append batches (batch ∷ [])))

module _ {S : Type 0} (loads : List ℕ → S → Type 0) (next : S → Bool → List ℕ → S) where
  module _ (one : (a b x y : List ℕ) (s t : S) → loads a s → loads b t → a ++ x ≡ b ++ y → (a ≡ b) × (s ≡ t)) where
    -- a file begins with one front
    pub one_front : (f g x y : List ℕ) (s t : S) → IsFront loads next f s → IsFront loads next g t → f ++ x ≡ g ++ y → (f ≡ g) × (s ≡ t)
    one_front f g x y s t is_f is_g is =
        let bases : is_f.base ++ (is_f.padding ++ x) ≡ is_g.base ++ (is_g.padding ++ y) =
        sym (append_assoc is_f.base is_f.padding x) ∙ ap (λ (l : List ℕ). l ++ x) (sym is_f.parts) ∙ is ∙ ap (λ (l : List ℕ). l ++ y) is_g.parts ∙ append_assoc is_g.base is_g.padding y in
        let same = one is_f.base is_g.base (is_f.padding ++ x) (is_g.padding ++ y) s t is_f.loaded is_g.loaded bases in
        let size : length f ≡ length g = is_f.size ∙ ap (λ (l : List ℕ). whole_sectors (length l)) same.0 ∙ sym is_g.size in
        (sym (take_at f x (length f) refl) ∙ ap (λ (l : List ℕ). take (length f) l) is ∙ take_at g y (length f) (sym size), same.1)

    -- a file stands for one state
    pub one_state : (file : List ℕ) (s t : S) → IsState loads next file s → IsState loads next file t → s ≡ t
    one_state file s t (m, a) (n, b) =
        let fronts = one_front a.front b.front (a.has.frames ++ a.has.rest) (b.has.frames ++ b.has.rest) a.first b.first a.begins b.begins
        (sym (append_assoc a.front a.has.frames a.has.rest) ∙ sym a.has.parts ∙ b.has.parts ∙ append_assoc b.front b.has.frames b.has.rest) in
        let batches = one_meaning b.front a.batches b.batches file (subst (λ (front : List ℕ). StandsFor front a.batches file) fronts.0 (m, a.has)) (n, b.has) in
        a.leads ∙ ap (λ (l : List (List (List ℕ))). state_again next (joined l) a.first) batches ∙ ap (state_again next (joined b.batches)) fronts.1 ∙ sym b.leads

    -- what keeps the batches that were read keeps the state
    pub keeps_state : (end : ℕ) (file c : List ℕ) (s : S) (is : IsStateAt loads next end file s) → StandsFor is.front is.batches c → KeepsState loads next file c
    keeps_state end file c s is stands t other =
        let same : s ≡ t = one_state file s t (end, is) other in
        (stands.0, record { front = is.front; first = is.first; begins = is.begins; batches = is.batches; has = stands.1; leads = sym same ∙ is.leads })

    pub keeps_itself : (file c : List ℕ) → c ≡ file → KeepsState loads next file c
    keeps_itself file c same t is = subst (λ (l : List ℕ). IsState loads next l t) (sym same) is

  module _ (machine : S) (gate : ℕ) (file : FileState) (durable : IsDurable loads next machine gate file) where
    -- a file with the batches from before stands for the state from before
    pub is_before : (c : List ℕ) → StandsFor durable.front durable.batches c → IsState loads next c machine
    is_before c stands = (stands.0, record { front = durable.front; first = durable.first; begins = durable.begins; batches = durable.batches; has = stands.1; leads = durable.leads })

    -- what a crash leaves before anything is done
    pub rests_before : (c : List ℕ) → MayLeave file c → IsState loads next c machine
    rests_before c left = is_before c (subst (StandsFor durable.front durable.batches) (sym (durable.rests.durable.left c left)) (at_rest durable.front durable.batches gate file durable.rests))

    -- where nothing has changed, it is durable still
    pub as_before : (new : FileState) → IsAsBefore file new → IsDurable loads next machine gate new
    as_before new same = record {
      front = durable.front;
      first = durable.first;
      begins = durable.begins;
      batches = durable.batches;
      rests = rests_as_before durable.front durable.batches gate file new durable.rests same;
      leads = durable.leads;
    }

    pub nothing_done : (P : List ℕ → Type 0) → ((c : List ℕ) → IsState loads next c machine → P c) → LeavesOnly file file P
    nothing_done P so = started file P (λ c left. so c (rests_before c left))

-- where a file's batches end, a sector begins
pub end_whole : {S : Type 0} (loads : List ℕ → S → Type 0) (next : S → Bool → List ℕ → S) (end : ℕ) (file : List ℕ) (s : S) (is : IsStateAt loads next end file s) → IsWhole end × IsWhole (length is.front) × (end ≤ length file)
end_whole loads next end file s is =
    let front : IsWhole (length is.front) = omega (arith, is.begins.size) in (
      omega (arith, is.has.ends, front, length-append is.front is.has.frames, frames_whole (length is.front) is.batches is.has.frames is.has.are),
      front,
      omega (arith, is.has.ends, ap length is.has.parts, length-append (is.front ++ is.has.frames) is.has.rest),
    )
