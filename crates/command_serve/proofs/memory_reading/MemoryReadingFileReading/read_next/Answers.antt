use Rattle.std.proofs.Common.{rules, ◌≡◌, ◌≤◌, ◌+◌, ◌-◌, ℕ, List, ◌++◌, length, take, drop, sym, ◌∙◌, ap, arith, length-take, length-drop, take-append-drop}
use Rattle.std.proofs.lemmas.List.{take-take, drop-take}
use Rattle.command_serve.proofs.memory_reading.MemoryReadingFileReading.read_next.Goals as goal

pub returns-clause-read : goal.returns-clause-read
returns-clause-read c =
    let at = c.args.self.now.at in
    let count = c.args.count in
    let file = c.args.self.now.bytes.items in
    let within : length (take at file) + count ≤ length file = c.requires.within in
    let was : at ≤ length file = c.args.self.now.within in
    let same : at + count - at ≡ count = omega arith in
    let more : c.extend_from_slice.new.self.items ≡ c.args.bytes.now.items ++ take (at + count - at) (drop at file) = search rules in
    record {
      bytes = take count (drop at file);
      counted = omega (arith, within, was, length-take at file, length-take count (drop at file), length-drop at file);
      read =
          sym (take-append-drop at (take (at + count) file))
          ∙ ap (λ (l : List ℕ). l ++ drop at (take (at + count) file)) (take-take at (at + count) file (omega arith))
          ∙ ap (λ (l : List ℕ). take at file ++ l) (drop-take at count file);
      put = more ∙ ap (λ (k : ℕ). c.args.bytes.now.items ++ take k (drop at file)) same;
    }
