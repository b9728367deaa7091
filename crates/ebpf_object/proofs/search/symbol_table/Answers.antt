use Rattle.std.proofs.Common.{◌≡◌, ◌∙◌, ℕ, Bool, true, false, cond, None, Some, ap, refl, sym, below_more}
use Rattle.std.specs.Prelude.{is_some}
use Rattle.ebpf_object.specs.Sections.{is_symbols, section_at}
use Rattle.ebpf_object.proofs.search.symbol_table.Goals as goal

-- what a test lets through is there, where anything is
there : (test : Bool) (n : ℕ) → is_some (cond test (Some n) None) ≡ true → cond test (Some n) None ≡ Some n
there true n e = refl
there false n e = cc

-- and else nothing is
not_there : (test : Bool) (n : ℕ) → is_some (cond test (Some n) None) ≡ false → cond test (Some n) None ≡ None
not_there true n e = cc
not_there false n e = refl

pub loop-number-preserved : goal.loop-number-preserved
loop-number-preserved c =
    let here : is_some (cond (is_symbols (section_at c.args.bytes.now c.loop-number.number).kind) (Some c.loop-number.number) None) ≡ false
    = ap is_some (sym c.symbol_table_at.ensures) ∙ sym c.is_some.ensures ∙ c.if-is_some.false in
    below_more _ _ c.loop-number.invariant (not_there _ c.loop-number.number here)

pub returns-then-is_some : goal.returns-then-is_some
returns-then-is_some c =
    let here : is_some (cond (is_symbols (section_at c.args.bytes.now c.loop-number.number).kind) (Some c.loop-number.number) None) ≡ true
    = ap is_some (sym c.symbol_table_at.ensures) ∙ sym c.is_some.ensures ∙ c.if-is_some.true in
    record { within = c.loop-number-test.true; has = there _ c.loop-number.number here; before = c.loop-number.invariant }
