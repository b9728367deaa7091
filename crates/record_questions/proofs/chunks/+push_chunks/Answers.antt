use Rattle.std.proofs.Common.{rules, ℕ, refl, true, ap, ◌≡◌, ◌≤◌, ◌+◌, ◌++◌, length}
use Rattle.record_questions.proofs.ChunkSizes.{from_ok, next_code}
use Rattle.record_questions.specs.declared.question.Comparison.TheVariants.{Equal}
use Rattle.record_questions.specs.Code.{chunk_field, chunk_operand, chunk_sizes, chunks_slots, comparison_code}
use Rattle.record_questions.proofs.chunks.+push_chunks.Goals as goal

pub returns : goal.returns
returns t c =
    let xs = c.args.bytes.now in
    let ys = c.after_chunk-rest.result.now in
    let s = c.chunk_size-size.result in
    let left = chunks_slots (chunk_sizes (length ys)) ys in
    let further = left + c.args.skip in
    let between = c.push_chunk.new.code.items in
    let some : 1 ≤ length xs = search rules in
    let pushed : between ≡ c.args.code.now.items
    ++ comparison_code c.args.byte true (chunk_field s c.args.offset) Equal (chunk_operand s xs) further = search rules in
    from_ok c.push_chunks.result _ _ c.push_chunks.ensures
    (λ u e. next_code c.args.code.now.items between c.push_chunks.new.code.items c.args.byte c.args.offset (c.args.offset + c.bytes_of.result) xs ys s
    c.args.skip left further some c.chunk_size-size.ensures.value c.after_chunk-rest.ensures.value
    (ap (λ (k : ℕ). c.args.offset + k) c.bytes_of.ensures.value) refl refl pushed e)
