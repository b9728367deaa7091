-- How many blocks groups can come to behind a block that is begun.
use Rattle.std.proofs.Common.{◌≡◌, ℕ, zero, suc, ◌+◌, ◌-◌, ◌*◌, ◌/◌, ◌≤◌, ◌<◌, List, [], ◌∷◌, length, refl, ap, sym, subst, ◌∙◌, arith, rules, ⊎_elim, length-append}
use Rattle.std.specs.Int.{div_ceil}
use Rattle.std.specs.List.{AllByRecursion}
use Rattle.std.proofs.Math.Nat.{div-mul-le_self, mul_comm, suc-mul}
use Rattle.std.proofs.lemmas.Bool.{cases_lt}
use Rattle.std.proofs.lemmas.List.{length-map}
use Rattle.std.proofs.lemmas.Nat.{le-div}
use Rattle.std.proofs.lemmas.Bool.Decides.{nat_tests}
use Rattle.std.proofs.lemmas.Grind.{div_ceil_times}
use Rattle.common_definitions.specs.Bytes.{padded}
use Rattle.program_interface.specs.RunSizes.{Sizes}
use Rattle.emit_append.specs.Packer.{PackerState, new_packer}
use Rattle.emit_append.specs.Packing.{block_fillings, laid_out, packed, pending_of, released}
use Rattle.emit_append.specs.Need.{NeedBehindFalls, NeedBehindGrows, NeedBehindIsEnough, need, need_behind}
use Rattle.emit_append.proofs.Layouts.{filled-empty, filled-first}
use Rattle.emit_append.proofs.Needs.{blocks-few, need-some, need_grows, need_is_enough, none_begun, none_fits, one_less, quotient_above, quotient_below}
use Rattle.emit_append.proofs.Puts.{lending_is_putting}

abbrev sizes_of : ℕ → ℕ → Sizes
sizes_of block limit = record { block = block; limit = limit }

-- what is enough behind some bytes
behind-some : (begun groups : ℕ) (sizes : Sizes)
    → need_behind (suc begun) groups sizes ≡ 1 + need (groups - (sizes.block - suc begun) / sizes.limit) sizes
behind-some begun groups sizes = search (rules, nat_tests)

-- ---- it is enough

-- behind a room, the groups begin no more blocks than those need that may not fit
later_few : (block limit room : ℕ) (groups : List (List ℕ)) → limit ≤ block → AllByRecursion (λ group. length group ≤ limit) groups
    → length (laid_out block room groups).later ≤ need (length groups - room / limit) (sizes_of block limit)
later_few block zero room groups within all = omega (arith, ap length (none_begun block room groups all))
later_few block (suc limit) room groups within all =
    let each = block / suc limit in
    let some : 1 ≤ each = le-div 1 block (suc limit) (omega arith) (omega arith) in
    let one_more : suc (each - 1) ≡ each = omega (arith, some) in
    let fit = room / suc limit in
    let fits : suc (each - 1) * suc limit ≤ block = subst (λ (n : ℕ). n * suc limit ≤ block) (sym one_more) (div-mul-le_self block (suc limit)) in
    let few = blocks-few block (suc limit) (each - 1) room fit groups fits (div-mul-le_self room (suc limit)) all in
    let below = quotient_below (length (laid_out block room groups).later) (length groups - fit) (each - 1) few in
    rw (need-some (length groups - fit) block limit)
    (subst (λ (n : ℕ). length (laid_out block room groups).later ≤ div_ceil (length groups - fit) n) one_more below)

enough_behind : (block limit : ℕ) (begun : List ℕ) (groups : List (List ℕ)) → limit ≤ block
    → AllByRecursion (λ group. length group ≤ limit) groups
    → length (packed block (begun ∷ groups)) ≤ need_behind (length begun) (length groups) (sizes_of block limit)
enough_behind block limit [] groups within all =
    let same = ap (λ (fillings : List (List ℕ)). length fillings) (filled-empty block groups) in
    let few = need_is_enough (sizes_of block limit) groups within all in
    omega (arith, few, same, length-map (block_fillings block groups) (padded block), length-map (block_fillings block ([] ∷ groups)) (padded block))
enough_behind block limit (x ∷ xs) groups within all =
    let same = ap (λ (fillings : List (List ℕ)). length fillings) (filled-first block (x ∷ xs) groups (omega arith)) in
    let few = later_few block limit (block - length (x ∷ xs)) groups within all in
    let more = behind-some (length xs) (length groups) (sizes_of block limit) in
    omega (arith, few, same, length-map (block_fillings block ((x ∷ xs) ∷ groups)) (padded block), more)

pub need_behind_is_enough : NeedBehindIsEnough
need_behind_is_enough sizes begun groups within fits all = enough_behind sizes.block sizes.limit begun groups within all

-- ---- more groups

pub need_behind_grows : NeedBehindGrows
need_behind_grows sizes zero fewer more less = need_grows sizes fewer more less
need_behind_grows sizes (suc begun) fewer more less =
    let fit = (sizes.block - suc begun) / sizes.limit in
    let grows = need_grows sizes (fewer - fit) (more - fit) (omega (arith, less)) in
    rw (behind-some begun fewer sizes, behind-some begun more sizes) (omega (arith, grows))

-- ---- one group more

-- a group of at most the limit takes no more of a room than the place of one
one_place : (room long limit : ℕ) → 0 < limit → long ≤ limit → room / limit ≤ (room - long) / limit + 1
one_place room long limit some within =
    let one = le-div (room / limit - 1) (room - long) limit some (one_less (room / limit) limit room long (div-mul-le_self room limit) within) in
    omega (arith, one)

one_fewer : (later rest each blocks : ℕ) → each ≤ rest + 1 → later + 1 ≤ blocks * each → (later - rest ≤ each * (blocks - 1)) × (1 ≤ blocks)
one_fewer later rest each zero most whole = absurd (omega (arith, whole))
one_fewer later rest each (suc blocks) most whole =
    let left : suc blocks - 1 ≡ blocks = omega arith in
    let fewer : later - rest ≤ each * blocks = omega (arith, whole, most, suc-mul blocks each, mul_comm blocks each) in
    (subst (λ (n : ℕ). later - rest ≤ each * n) (sym left) fewer, omega arith)

-- a block for a group, and those for what may not fit behind it, are no more than all need
block_more : (block limit long later : ℕ) → limit ≤ block → 0 < long → long ≤ limit
    → 1 + need (later - (block - long) / limit) (sizes_of block limit) ≤ need (later + 1) (sizes_of block limit)
block_more block zero long later within some most = absurd (omega (arith, some, most))
block_more block (suc limit) long later within some most =
    let each = block / suc limit in
    let rest = (block - long) / suc limit in
    let any : 1 ≤ each = le-div 1 block (suc limit) (omega arith) (omega arith) in
    let one_more : suc (each - 1) ≡ each = omega (arith, any) in
    let blocks = div_ceil (later + 1) each in
    let fewer = one_fewer later rest each blocks (one_place block long (suc limit) (omega arith) most) (div_ceil_times (later + 1) each any).0 in
    let above : div_ceil (later - rest) (suc (each - 1)) ≤ blocks - 1 =
    quotient_above (blocks - 1) (later - rest) (each - 1) (subst (λ (n : ℕ). later - rest ≤ n * (blocks - 1)) (sym one_more) fewer.0) in
    let few : div_ceil (later - rest) each ≤ blocks - 1 = subst (λ (n : ℕ). div_ceil (later - rest) n ≤ blocks - 1) one_more above in
    rw (need-some (later - rest) block limit, need-some (later + 1) block limit) (omega (arith, few, fewer.1))

-- where a group goes into the block that is begun
falls_behind : (block limit begun long both later : ℕ) → limit ≤ block → long ≤ limit → both ≡ begun + long
    → need_behind both later (sizes_of block limit) ≤ need_behind begun (later + 1) (sizes_of block limit)
falls_behind block limit zero long zero later within most is = need_grows (sizes_of block limit) later (later + 1) (omega arith)
falls_behind block limit zero long (suc both) later within most is =
    rw (behind-some both later (sizes_of block limit)) (block_more block limit (suc both) later within (omega arith) (omega (arith, most, is)))
falls_behind block limit (suc begun) long zero later within most is = absurd (omega (arith, is))
falls_behind block zero (suc begun) long (suc both) later within most is =
    rw (behind-some both later (sizes_of block zero), behind-some begun (later + 1) (sizes_of block zero)) (omega arith)
falls_behind block (suc limit) (suc begun) long (suc both) later within most is =
    let room = block - suc begun in
    let same : room - long ≡ block - suc both = omega (arith, is) in
    let one = one_place room long (suc limit) (omega arith) most in
    let less : later - (block - suc both) / suc limit ≤ (later + 1) - room / suc limit =
    subst (λ (n : ℕ). later - n / suc limit ≤ (later + 1) - room / suc limit) same (omega (arith, one)) in
    let grows = need_grows (sizes_of block (suc limit)) (later - (block - suc both) / suc limit) ((later + 1) - room / suc limit) less in
    rw (behind-some both later (sizes_of block (suc limit)), behind-some begun (later + 1) (sizes_of block (suc limit))) (omega (arith, grows))

-- where it doesn't
falls_anew : (block limit begun long later : ℕ) → limit ≤ block → begun ≤ block → long ≤ limit → block < begun + long
    → 1 + need_behind long later (sizes_of block limit) ≤ need_behind begun (later + 1) (sizes_of block limit)
falls_anew block limit zero long later within fits most full = absurd (omega (arith, within, most, full))
falls_anew block limit (suc begun) zero later within fits most full = absurd (omega (arith, fits, full))
falls_anew block limit (suc begun) (suc long) later within fits most full =
    let room = block - suc begun in
    let none : room / limit ≡ 0 = none_fits (room / limit) limit room (suc long) (div-mul-le_self room limit) (omega (arith, full)) most in
    let all : (later + 1) - room / limit ≡ later + 1 = omega (arith, none) in
    let more = block_more block limit (suc long) later within (omega arith) most in
    rw (behind-some long later (sizes_of block limit), behind-some begun (later + 1) (sizes_of block limit), all) (omega (arith, more))

comes : (released given pending left before : ℕ) → released ≡ given → pending ≡ left → given + left ≤ before → released + pending ≤ before
comes released given pending left before is_given is_left less = omega (arith, is_given, is_left, less)

falls : (block limit : ℕ) (begun group : List ℕ) (later : ℕ) → limit ≤ block → length begun ≤ block → length group ≤ limit
    → length (released block (begun ∷ group ∷ [])) + need_behind (length (pending_of block (begun ∷ group ∷ []))) later (sizes_of block limit)
    ≤ need_behind (length begun) (later + 1) (sizes_of block limit)
falls block limit begun group later within fits most =
    let packer : PackerState = record { block = block; pending = begun } in
    let whole : length group ≤ block = omega (arith, within, most) in
    let put = lending_is_putting packer group fits whole in
    let first = lending_is_putting (new_packer block) group (omega arith) whole in
    let alone : length (new_packer block).pending + length group ≤ block = omega (arith, whole) in
    ⊎_elim
    (λ full.
    let given = ap (λ (blocks : List (List ℕ)). length blocks) (put.block full) in
    let left : pending_of block (begun ∷ group ∷ []) ≡ group =
    ap (λ (p : PackerState). p.pending) (put.anew full) ∙ ap (λ (p : PackerState). p.pending) (first.behind alone) in
    let less = falls_anew block limit (length begun) (length group) later within fits most full in
    comes (length (released block (begun ∷ group ∷ []))) 1 _ _ _ given (ap (λ (p : List ℕ). need_behind (length p) later (sizes_of block limit)) left) less)
    (λ small.
    let given = ap (λ (blocks : List (List ℕ)). length blocks) (put.none small) in
    let left : length (pending_of block (begun ∷ group ∷ [])) ≡ length begun + length group =
    ap (λ (p : PackerState). length p.pending) (put.behind small) ∙ length-append begun group in
    let less = falls_behind block limit (length begun) (length group) (length begun + length group) later within most refl in
    comes (length (released block (begun ∷ group ∷ []))) 0 _ _ _ given (ap (λ (n : ℕ). need_behind n later (sizes_of block limit)) left) (omega (arith, less)))
    (cases_lt block (length begun + length group))

pub need_behind_falls : NeedBehindFalls
need_behind_falls sizes begun group later within fits most = falls sizes.block sizes.limit begun group later within fits most
