-- The ends to which guards lead.
use Rattle.std.proofs.Common.{ℕ, zero, suc, ◌≡◌, ◌∙◌, ◌+◌, ◌<◌, ◌≤◌, Bool, true, false, cond, List, [], ◌∷◌, ◌++◌, length, Option, Some, refl, sym, ap, inl, inr, append_assoc, arith, eq-eqb}
use Rattle.std.proofs.lemmas.Bool.{cases_lt}
use Rattle.std.proofs.lemmas.List.{append-nil, map-append}
use Rattle.std.proofs.lemmas.Option.{slice_get_within}
use Rattle.std.specs.Prelude.{map, nat_lt, slice_get, ◌⊎◌}
use Rattle.ebpf_link.specs.Ends.{LeadsTo, LeadsToMark, MarkingGuardsHaveTheirEnds, SilentGuardsHaveTheirEnds, cell_offset, ended_behind, ends_of, guard_end, is_of_kind, label_of, labels_of, mark_label, mark_pieces, marked_ends, silent_end, silent_ends, told_end, told_ends}
use Rattle.ebpf_link.specs.Guards.{guard_index, guard_label}
use Rattle.ebpf_link.specs.Marks.{mark_end}
use Rattle.ebpf_link.specs.declared.guards.Guard.{Guard}
use Rattle.ebpf_link.specs.declared.guards.Guard.TheVariants.{Block, Emit, Memory, Rounds}
use Rattle.ebpf_link.specs.declared.layout.LaidGuard.{LaidGuard}
use Rattle.ebpf_link.specs.declared.pieces.Piece.{Piece}
use Rattle.ebpf_link.specs.declared.pieces.Piece.TheVariants.{Begins, Plain}

-- ---- other pieces in front and behind
past : (front pieces : List Piece) (label : ℕ) (ends : List Piece) → LeadsTo pieces label ends → LeadsTo (front ++ pieces) label ends
past front pieces label ends leads = record {
  before = front ++ leads.before;
  labels = leads.labels;
  behind = leads.behind;
  are = ap (λ (x : List Piece). front ++ x) leads.are ∙ sym (append_assoc front leads.before _);
}

further : (pieces back : List Piece) (label : ℕ) (ends : List Piece) → LeadsTo pieces label ends → LeadsTo (pieces ++ back) label ends
further pieces back label ends leads = record {
  before = leads.before;
  labels = leads.labels;
  behind = leads.behind ++ back;
  are = ap (λ (x : List Piece). x ++ back) leads.are ∙ simp append_assoc;
}

-- ---- labels of guards that write nothing
label_map : (b : Bool) (l : ℕ) → cond b (Begins l ∷ []) [] ≡ map Begins (cond b (l ∷ []) [])
label_map true l = refl
label_map false l = refl

-- a label, and others behind it
record HasLabel (pieces : List Piece) (label : ℕ) : Type 0 where
  before : List Piece
  labels : List ℕ
  are : pieces ≡ before ++ (Begins label ∷ map Begins labels)

labelled : (slots : ℕ) (guards : List LaidGuard) (guard : Guard) (place : ℕ) → is_of_kind guard (slice_get guards place) ≡ true
    → label_of slots guards guard place ≡ Begins (guard_label slots place) ∷ []
labelled slots guards guard place is = rw is refl

one_more : (slots : ℕ) (guards : List LaidGuard) (guard : Guard) (place n : ℕ)
    → HasLabel (labels_of slots guards guard n) (guard_label slots place)
    → HasLabel (labels_of slots guards guard n ++ label_of slots guards guard n) (guard_label slots place)
one_more slots guards guard place n has =
    let l = guard_label slots n in
    let b = is_of_kind guard (slice_get guards n) in
    record {
      before = has.before;
      labels = has.labels ++ cond b (l ∷ []) [];
      are = ap (λ (x : List Piece). x ++ label_of slots guards guard n) has.are
          ∙ (append_assoc has.before (Begins (guard_label slots place) ∷ map Begins has.labels) (label_of slots guards guard n)
          ∙ ap (λ (x : List Piece). has.before ++ (Begins (guard_label slots place) ∷ (map Begins has.labels ++ x))) (label_map b l)
          ∙ ap (λ (x : List Piece). has.before ++ (Begins (guard_label slots place) ∷ x)) (sym (map-append Begins has.labels (cond b (l ∷ []) []))));
    }

has_label : (slots : ℕ) (guards : List LaidGuard) (guard : Guard) (place n : ℕ) → is_of_kind guard (slice_get guards place) ≡ true
    → place < n → HasLabel (labels_of slots guards guard n) (guard_label slots place)
has_label slots guards guard place zero is below = absurd (omega arith)
has_label slots guards guard place (suc n) is below = elim (cases_lt place n) [
  | inl less ↦ one_more slots guards guard place n (has_label slots guards guard place n is less)
  | inr more ↦
      let same : n ≡ place = omega arith in
      record {
        before = labels_of slots guards guard n;
        labels = [];
        are = ap (λ (k : ℕ). labels_of slots guards guard n ++ label_of slots guards guard k) same
            ∙ ap (λ (x : List Piece). labels_of slots guards guard n ++ x) (labelled slots guards guard place is);
      }
]

no_end : (before : List Piece) (piece : Piece) (more : List Piece) → [] ≡ before ++ (piece ∷ more) → {P : Type 0} → P
no_end [] piece more e = cc
no_end (first ∷ before) piece more e = cc

some_end : (guard : Guard) (labels before : List Piece) (piece : Piece) (more : List Piece) → labels ≡ before ++ (piece ∷ more)
    → ended_behind guard labels ≡ labels ++ guard_end guard
some_end guard [] before piece more e = no_end before piece more e
some_end guard (first ∷ labels) before piece more e = refl

to_end : (slots : ℕ) (guards : List LaidGuard) (guard : Guard) (place : ℕ) → is_of_kind guard (slice_get guards place) ≡ true
    → place < length guards → LeadsTo (silent_end slots guards guard) (guard_label slots place) (guard_end guard)
to_end slots guards guard place is below =
    let labels = labels_of slots guards guard (length guards) in
    let has = has_label slots guards guard place (length guards) is below in
    let label = Begins (guard_label slots place) in
    record {
      before = has.before;
      labels = has.labels;
      behind = [];
      are = some_end guard labels has.before label (map Begins has.labels) has.are
          ∙ (ap (λ (x : List Piece). x ++ guard_end guard) has.are ∙ append_assoc has.before (label ∷ map Begins has.labels) (guard_end guard));
    }

in_silent : (slots : ℕ) (guards : List LaidGuard) (place : ℕ) (guard : Guard) → is_of_kind guard (slice_get guards place) ≡ true
    → place < length guards → LeadsTo (silent_ends slots guards) (guard_label slots place) (guard_end guard)
in_silent slots guards place Memory is below = further _ _ _ _ (to_end slots guards Memory place is below)
in_silent slots guards place Emit is below =
    past (silent_end slots guards Memory) _ _ _ (further _ _ _ _ (to_end slots guards Emit place is below))
in_silent slots guards place Block is below =
    past (silent_end slots guards Memory) _ _ _
    (past (silent_end slots guards Emit) _ _ _ (further _ _ _ _ (to_end slots guards Block place is below)))
in_silent slots guards place Rounds is below =
    past (silent_end slots guards Memory) _ _ _
    (past (silent_end slots guards Emit) _ _ _ (past (silent_end slots guards Block) _ _ _ (to_end slots guards Rounds place is below)))

pub silent_guards_have_their_ends : SilentGuardsHaveTheirEnds
silent_guards_have_their_ends slots guards own place laid found =
    let is : is_of_kind laid.guard (slice_get guards place) ≡ true = rw found (eq-eqb (guard_index laid.guard) (guard_index laid.guard) refl) in
    in_silent slots guards place laid.guard is (slice_get_within guards place laid found)

-- ---- ends of guards that write
record HasTold (slots count place n : ℕ) : Type 0 where
  front : List Piece
  back : List Piece
  are : told_ends slots count n ≡ front ++ (told_end slots count place ++ back)

has_told : (slots count place n : ℕ) → place < n → HasTold slots count place n
has_told slots count place zero below = absurd (omega arith)
has_told slots count place (suc n) below = elim (cases_lt place n) [
  | inl less ↦
      let has = has_told slots count place n less in
      record {
        front = has.front;
        back = has.back ++ told_end slots count n;
        are = ap (λ (x : List Piece). x ++ told_end slots count n) has.are
            ∙ (append_assoc has.front (told_end slots count place ++ has.back) (told_end slots count n)
            ∙ ap (λ (x : List Piece). has.front ++ x) (append_assoc (told_end slots count place) has.back (told_end slots count n)));
      }
  | inr more ↦
      let same : n ≡ place = omega arith in
      record {
        front = told_ends slots count n;
        back = [];
        are = ap (λ (k : ℕ). told_ends slots count n ++ told_end slots count k) same
            ∙ ap (λ (x : List Piece). told_ends slots count n ++ x) (sym (append-nil (told_end slots count place)));
      }
]

leads_on : (slots count own place at : ℕ) (b : Bool) → nat_lt (place + 1) count ≡ b → place < count
    → LeadsToMark (marked_ends slots count own at) slots place own at
leads_on slots count own place at true is below =
    let has = has_told slots count place count below in
    inl (further (told_ends slots count count) (mark_pieces slots own at) _ _ (record {
      before = has.front;
      labels = [];
      behind = has.back;
      are = has.are ∙ rw is refl;
    }))
leads_on slots count own place at false is below =
    let last : count ≡ suc place = grind (arith, is) in
    inr (record {
      before = told_ends slots count place;
      labels = [];
      behind = [];
      are = ap (λ (k : ℕ). told_ends slots count k ++ mark_pieces slots own at) last ∙ rw is (simp (append_assoc, append-nil));
    })

pub marking_guards_have_their_ends : MarkingGuardsHaveTheirEnds
marking_guards_have_their_ends slots guards own place at below = (
  leads_on slots (length guards) own place at (nat_lt (place + 1) (length guards)) refl below,
  record {
    before = told_ends slots (length guards) (length guards);
    labels = [];
    behind = [];
    are = ap (λ (x : List Piece). told_ends slots (length guards) (length guards) ++ (Begins (mark_label slots) ∷ x)) (sym (append-nil _));
  },
)
