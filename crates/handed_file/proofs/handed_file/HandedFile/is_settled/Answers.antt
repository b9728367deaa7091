use Rattle.std.proofs.Common.{◌≡◌, false, [], rules}
use Rattle.handed_file.specs.Handing.{has_refused}
use Rattle.handed_file.specs.Handed.{made_calls, noted, waiting}
use Rattle.handed_file.proofs.Ordered.{all_made}
use Rattle.handed_file.proofs.handed_file.HandedFile.is_settled.Goals as goal

pub returns-then-is_none-clause-made : goal.returns-then-is_none-clause-made
returns-then-is_none-clause-made c = λ usable.
    let file = c.args.self.now in
    let none : waiting file ≡ [] = search rules in
    let kept : has_refused (noted file) ≡ false = search rules in
    all_made (waiting file) (noted file) (made_calls file) none kept file.in_order
