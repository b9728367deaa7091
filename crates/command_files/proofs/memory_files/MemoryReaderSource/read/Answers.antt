use Rattle.std.proofs.Common.{◌≡◌, ℕ, length, ap, sym, ◌∙◌, min}
use Rattle.command_files.proofs.MemoryReading.{piece}
use Rattle.command_files.proofs.memory_files.MemoryReaderSource.read.Goals as goal

pub returns-clause-read : goal.returns-clause-read
returns-clause-read c = λ told.
    let value : c.as_slice.result.now ≡ c.args.self.now.bytes.items = c.as_slice.ensures.value in
    let len : c.len.result ≡ length c.args.self.now.bytes.items = c.len.ensures ∙ sym c.as_slice.ensures.len ∙ ap length value in
    piece c.args.self.now.bytes.items c.args.to.now c.copy_from_slice.new.self c.args.self.now.at c.min-start.result c.min-count.result
    (c.min-start.ensures ∙ ap (λ (n : ℕ). min c.args.self.now.at n) len)
    (rw value at c.min-count.ensures) (rw value at c.copy_from_slice.ensures.after)
