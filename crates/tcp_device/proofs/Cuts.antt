-- Deeds that differ only in how what comes is cut into pieces.
use Rattle.std.proofs.Common.{◌≡◌, ◌≢◌, ℕ, List, ◌∷◌, ◌++◌, refl, sym, ap, subst, ◌∙◌}
use Rattle.tcp_connection.specs.declared.expected.Progress.{Progress}
use Rattle.tcp_connection.specs.declared.expected.Progress.TheVariants.{Partial, Whole, Failed}
use Rattle.tcp_target.specs.PlacePieces.{JoinsAt}
use Rattle.tcp_target.specs.Events.{received}
use Rattle.tcp_target.specs.Pieces.{taken_both_on, taken_on}
use Rattle.tcp_target.specs.Pieces as target
use Rattle.tcp_target.specs.Target.{TargetState}
use Rattle.tcp_device.specs.Deeds.{AreDone, Deed, Received}
use Rattle.tcp_device.specs.Pieces.{DifferInCuts, EndsAtPdu, EndsWithin, PiecesJoin, end_in, taken_both_in, taken_in}
use Rattle.tcp_device.specs.Pieces.DifferInCuts.{chained, followed, joined, left_out, same, turned}
use Rattle.tcp_device.specs.State.{ServedState, with_target}

-- behind a PDU
at_pdu : {A : Type 0} (g : Progress) (both first once : A) → g ≢ Partial → JoinsAt g both first once → first ≡ once
at_pdu Partial both first once unlike joins = absurd (unlike refl)
at_pdu (Whole pdu) both first once unlike joins = joins
at_pdu (Failed error) both first once unlike joins = joins

module _ (law : target.PiecesJoin) (old : ServedState) where
  -- the target behind two pieces is that behind both at once
  within : (number : ℕ) (first second : List ℕ) (s : ServedState) → end_in number first s ≡ Partial
      → received number second (received number first s.target) ≡ received number (first ++ second) s.target
  within number first second s ends =
      let t : TargetState = s.target in
      let joins : taken_both_on number first second t ≡ taken_on number (first ++ second) t =
      subst (λ (g : Progress). JoinsAt g (taken_both_on number first second t) (taken_on number first t) (taken_on number (first ++ second) t)) ends
      (law number first second t) in
      ap (λ (r : TargetState × ℕ). r.0) joins

  behind : (number : ℕ) (first second : List ℕ) (s : ServedState) → end_in number first s ≢ Partial
      → received number first s.target ≡ received number (first ++ second) s.target
  behind number first second s unlike =
      let t : TargetState = s.target in
      ap (λ (r : TargetState × ℕ). r.0)
      (at_pdu (end_in number first s) (taken_both_on number first second t) (taken_on number first t) (taken_on number (first ++ second) t) unlike
      (law number first second t))

  -- both ways
  abbrev Both : List Deed → List Deed → Type 0
  Both deeds others = (new : ServedState) → (AreDone deeds old new → AreDone others old new) × (AreDone others old new → AreDone deeds old new)

  join : (deeds : List Deed) (number : ℕ) (first second : List ℕ) → EndsWithin deeds number first old
      → Both (Received number second ∷ Received number first ∷ deeds) (Received number (first ++ second) ∷ deeds)
  join deeds number first second ends new = (
    λ done. (
        let s : ServedState = done.first.between in
        record {
          between = s;
          first = done.first.first;
          last =
              done.last
              ∙ ap (λ (b : ServedState). with_target (received number second b.target) b) done.first.last
              ∙ ap (λ (t : TargetState). with_target t s) (within number first second s (ends s done.first.first));
        }
        ),
    λ done. (
        let s : ServedState = done.between in
        record {
          between = with_target (received number first s.target) s;
          first = record { between = s; first = done.first; last = refl };
          last = done.last ∙ sym (ap (λ (t : TargetState). with_target t s) (within number first second s (ends s done.first)));
        }
        ),
  )

  leave : (deeds : List Deed) (number : ℕ) (first second : List ℕ) → EndsAtPdu deeds number first old
      → Both (Received number (first ++ second) ∷ deeds) (Received number first ∷ deeds)
  leave deeds number first second ends new = (
    λ done. (
        let s : ServedState = done.between in
        record {
          between = s;
          first = done.first;
          last = done.last ∙ sym (ap (λ (t : TargetState). with_target t s) (behind number first second s (ends s done.first)));
        }
        ),
    λ done. (
        let s : ServedState = done.between in
        record {
          between = s;
          first = done.first;
          last = done.last ∙ ap (λ (t : TargetState). with_target t s) (behind number first second s (ends s done.first));
        }
        ),
  )

  leads : (deeds others : List Deed) → DifferInCuts old deeds others → Both deeds others
  leads deeds others (same all) new = (λ done. done, λ done. done)
  leads deeds others (joined behind number first second ends) new = join behind number first second ends new
  leads deeds others (left_out behind number first second ends) new = leave behind number first second ends new
  leads deeds others (followed deed before after cuts) new = (
    λ done. record { between = done.between; first = (leads before after cuts done.between).0 done.first; last = done.last },
    λ done. record { between = done.between; first = (leads before after cuts done.between).1 done.first; last = done.last },
  )
  leads deeds others (turned before after cuts) new = let both = leads before after cuts new in (both.1, both.0)
  leads deeds others (chained before between after one two) new =
      let a = leads before between one new in
      let b = leads between after two new in
      (λ done. b.0 (a.0 done), λ done. a.1 (b.1 done))

takes : (g : Progress) (number : ℕ) (first second : List ℕ) (s : ServedState)
    → JoinsAt g (taken_both_on number first second s.target) (taken_on number first s.target) (taken_on number (first ++ second) s.target)
    → JoinsAt g (taken_both_in number first second s) (taken_in number first s) (taken_in number (first ++ second) s)
takes Partial number first second s joins = ap (λ (r : TargetState × ℕ). r.1) joins
takes (Whole pdu) number first second s joins = ap (λ (r : TargetState × ℕ). r.1) joins
takes (Failed error) number first second s joins = ap (λ (r : TargetState × ℕ). r.1) joins

pub pieces_join : target.PiecesJoin → PiecesJoin
pieces_join law = record {
  leads = λ old new deeds others cuts. (leads law old deeds others cuts new).0;
  takes = λ number first second s. takes (end_in number first s) number first second s (law number first second s.target);
}
