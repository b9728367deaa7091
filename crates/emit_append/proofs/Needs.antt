-- No packing needs more blocks than `need` tells, and some packing needs as many.
use Rattle.std.proofs.Common.{◌≡◌, ℕ, zero, suc, ◌+◌, ◌-◌, ◌*◌, ◌/◌, ◌%◌, ◌≤◌, ◌<◌, List, [], ◌∷◌, length, replicate, refl, ap, sym, subst, ◌∙◌, arith, rules, inl, inr, ⊎_elim, ◌⊎◌}
use Rattle.std.specs.Int.{div_ceil}
use Rattle.std.specs.List.{AllByRecursion}
use Rattle.std.proofs.Math.Nat.{div-add-mod', div-mul-le_self, mod-lt, lt_of_mul-lt-mul_left, lt_of_mul-lt-mul_right, mul-suc, mul_comm, suc-mul}
use Rattle.std.proofs.lemmas.Bool.{cases_lt}
use Rattle.std.proofs.lemmas.List.{length-map, length-replicate}
use Rattle.std.proofs.lemmas.Nat.{le-div}
use Rattle.std.proofs.lemmas.Bool.Decides.{nat_tests}
use Rattle.std.proofs.lemmas.Grind.{div_ceil_times}
use Rattle.common_definitions.specs.Bytes.{padded}
use Rattle.common_definitions.proofs.Proved.{all_same}
use Rattle.emit_append.specs.Packing.{laid_out, block_fillings, packed}
use Rattle.emit_append.specs.Need.{NeedGrows, NeedIsEnough, NeedIsMet, ReachNeed, need}
use Rattle.emit_append.proofs.Layouts.{laid-behind, laid-beginning, laid-empty}

zero_or_more : (a l : ℕ) → (a * l ≡ 0) ⊎ (a ≤ a * l)
zero_or_more a zero = inl (omega arith)
zero_or_more a (suc l) = inr (omega (arith, mul-suc a l))

-- none that may be as long as the group fits where the group doesn't
pub none_fits : (fit limit room long : ℕ) → fit * limit ≤ room → room < long → long ≤ limit → fit ≡ 0
none_fits zero limit room long fits longer within = refl
none_fits (suc fit) limit room long fits longer within = absurd (omega (arith, suc-mul fit limit))

pub one_less : (fit limit room long : ℕ) → fit * limit ≤ room → long ≤ limit → (fit - 1) * limit ≤ room - long
one_less zero limit room long fits within = omega arith
one_less (suc fit) limit room long fits within = let left : suc fit - 1 ≡ fit = omega arith in rw left (omega (arith, suc-mul fit limit))

one_block_more : (e more later : ℕ) → suc e * later ≤ (more - e) + e → suc e * suc later ≤ (suc more - 0) + e
one_block_more e more later few =
    ⊎_elim
    (λ none. omega (arith, mul-suc (suc e) later, none))
    (λ some. omega (arith, mul-suc (suc e) later, some))
    (zero_or_more (suc e) later)

-- Groups of at most limit bytes, `suc e` of which fit into a block and `fit` into the room that is left, begin few blocks.
pub blocks-few : (block limit e room fit : ℕ) (groups : List (List ℕ)) → suc e * limit ≤ block → fit * limit ≤ room →
    AllByRecursion (λ group. length group ≤ limit) groups →
    suc e * length (laid_out block room groups).later ≤ (length groups - fit) + e
blocks-few block limit e room fit [] each fits all = omega arith
blocks-few block limit e room fit (g ∷ gs) each fits all =
    ⊎_elim
    (λ large.
    let rest = blocks-few block limit e (block - length g) e gs each (omega (arith, suc-mul e limit, all.0)) all.1 in
    rw (none_fits fit limit room (length g) fits large all.0, laid-beginning block room g gs large)
    (one_block_more e (length gs) (length (laid_out block (block - length g) gs).later) rest))
    (λ small. rw (laid-behind block room g gs small) (omega (arith, blocks-few block limit e (room - length g) (fit - 1) gs each (one_less fit limit room (length g) fits all.0) all.1)))
    (cases_lt room (length g))

-- where no group has a byte, no block is begun
pub none_begun : (block room : ℕ) (groups : List (List ℕ)) → AllByRecursion (λ group. length group ≤ 0) groups → (laid_out block room groups).later ≡ []
none_begun block room [] all = refl
none_begun block room ([] ∷ gs) all = ap (λ l. l.later) (laid-empty block room gs) ∙ none_begun block room gs all.1
none_begun block room ((x ∷ xs) ∷ gs) all = absurd (omega (arith, all.0))

pub quotient_below : (many groups e : ℕ) → suc e * many ≤ groups + e → many ≤ div_ceil groups (suc e)
quotient_below many groups e few =
    let whole = div_ceil_times groups (suc e) (omega arith) in
    let turned = mul_comm (div_ceil groups (suc e)) (suc e) in
    let more = mul-suc (suc e) (div_ceil groups (suc e)) in
    let below : suc e * many < suc e * suc (div_ceil groups (suc e)) = omega (arith, whole.0) in
    omega (arith, lt_of_mul-lt-mul_left (suc e) below)

filled-few : (block limit each : ℕ) (groups : List (List ℕ)) → 0 < each → each * limit ≤ block → AllByRecursion (λ group. length group ≤ limit) groups →
    length (block_fillings block groups) ≤ div_ceil (length groups) each
filled-few block limit zero groups some fits all = absurd (omega arith)
filled-few block limit (suc e) groups some fits all =
    quotient_below (length (block_fillings block groups)) (length groups) e (omega (arith, blocks-few block limit e 0 0 groups fits (omega arith) all))

-- what `need` is where a group may have bytes
pub need-some : (groups block limit : ℕ) → need groups (record { block = block; limit = suc limit }) ≡ div_ceil groups (block / suc limit)
need-some groups block limit = search (rules, nat_tests)

enough : (block limit : ℕ) (groups : List (List ℕ)) → limit ≤ block → AllByRecursion (λ group. length group ≤ limit) groups →
    length (packed block groups) ≤ need (length groups) (record { block = block; limit = limit })
enough block zero groups within all = omega (arith, length-map (block_fillings block groups) (padded block), ap length (none_begun block 0 groups all))
enough block (suc limit) groups within all =
    let some : 0 < block / suc limit = le-div 1 block (suc limit) (omega arith) (omega arith) in
    let few = filled-few block (suc limit) (block / suc limit) groups some (div-mul-le_self block (suc limit)) all in
    rw (need-some (length groups) block limit, length-map (block_fillings block groups) (padded block)) few

pub need_is_enough : NeedIsEnough
need_is_enough sizes groups within all = enough sizes.block sizes.limit groups within all

-- one of the groups that fit into the room that is left
one_fits : (long room fit more later : ℕ) → long ≤ room → room < suc fit * long
    → ((left : ℕ) → room - long < suc left * long → more ≤ left + later) → suc more ≤ fit + later
one_fits long room zero more later fits most rest = absurd (omega (arith, suc-mul 0 long))
one_fits long room (suc fit) more later fits most rest =
    let others = rest fit (omega (arith, suc-mul (suc fit) long)) in
    omega (arith, others)

-- Groups alike, of which no more than `suc d` fit into a block and `fit` into the room that is left, begin no fewer blocks.
blocks-many : (block d room fit count : ℕ) (group : List ℕ) → block < suc (suc d) * length group → room < suc fit * length group →
    count ≤ fit + suc d * length (laid_out block room (replicate count group)).later
blocks-many block d room fit zero group most left = omega arith
blocks-many block d room fit (suc count) group most left =
    ⊎_elim
    (λ large.
    let inside : block - length group < suc d * length group = omega (arith, suc-mul (suc d) (length group), suc-mul d (length group)) in
    let rest = blocks-many block d (block - length group) d count group most inside in
    let later = length (laid_out block (block - length group) (replicate count group)).later in
    let more : suc count ≤ fit + suc d * suc later = omega (arith, rest, mul-suc (suc d) later) in
    rw (laid-beginning block room group (replicate count group) large) more)
    (λ small.
    rw (laid-behind block room group (replicate count group) small)
    (one_fits (length group) room fit count (suc d * length (laid_out block (room - length group) (replicate count group)).later) small left
    (λ fewer inside. blocks-many block d (room - length group) fewer count group most inside)))
    (cases_lt room (length group))

-- the least that so many groups come to
pub quotient_above : (many groups e : ℕ) → groups ≤ suc e * many → div_ceil groups (suc e) ≤ many
quotient_above many groups e most =
    let whole = div_ceil_times groups (suc e) (omega arith) in
    let turned = mul_comm (div_ceil groups (suc e)) (suc e) in
    let below : suc e * div_ceil groups (suc e) < suc e * suc many = omega (arith, whole.1, mul-suc (suc e) many) in
    omega (arith, lt_of_mul-lt-mul_left (suc e) below)

filled-many : (block each count : ℕ) (group : List ℕ) → 0 < each → 0 < length group → block < suc each * length group →
    div_ceil count each ≤ length (block_fillings block (replicate count group))
filled-many block zero count group some long most = absurd (omega arith)
filled-many block (suc d) count group some long most =
    quotient_above (length (block_fillings block (replicate count group))) count d
    (omega (arith, blocks-many block d 0 0 count group most (omega (arith, suc-mul 0 (length group)))))

as_many : (block limit count : ℕ) → limit ≤ block
    → need count (record { block = block; limit = limit }) ≤ length (packed block (replicate count (replicate limit 0)))
as_many block zero count within = omega arith
as_many block (suc limit) count within =
    let group : List ℕ = replicate (suc limit) 0 in
    let groups = replicate count group in
    let each = block / suc limit in
    let long : length group ≡ suc limit = length-replicate {A = ℕ} (suc limit) 0 in
    let some : 0 < each = le-div 1 block (suc limit) (omega arith) (omega arith) in
    let rest : block ≡ each * suc limit + block % suc limit = sym (div-add-mod' block (suc limit)) in
    let below : block % suc limit < suc limit = mod-lt block (omega arith) in
    let most : block < suc each * suc limit = omega (arith, rest, below, suc-mul each (suc limit)) in
    let many = filled-many block each count group some (omega (arith, long)) (subst (λ (n : ℕ). block < suc each * n) (sym long) most) in
    rw (need-some count block limit, length-map (block_fillings block groups) (padded block)) many

no_fewer : (many most least : ℕ) → many ≤ most → most ≡ least → least ≤ many → many ≡ least
no_fewer many most least few same not_less = omega (arith, few, same, not_less)

met : (block limit count : ℕ) → limit ≤ block → ReachNeed (record { block = block; limit = limit }) count (replicate count (replicate limit 0))
met block limit count within =
    let group : List ℕ = replicate limit 0 in
    let groups = replicate count group in
    let number : length groups ≡ count = length-replicate {A = List ℕ} count group in
    let all = all_same (λ (one : List ℕ). length one ≤ limit) count group (omega (arith, length-replicate {A = ℕ} limit 0)) in
    let most = enough block limit groups within all in
    let same = ap (λ (n : ℕ). need n (record { block = block; limit = limit })) number in
    record { number = number; within = all; blocks = no_fewer _ _ _ most same (as_many block limit count within) }

pub need_is_met : NeedIsMet
need_is_met sizes count within = (replicate count (replicate sizes.limit 0), met sizes.block sizes.limit count within)

ceil_grows : (fewer more each : ℕ) → fewer ≤ more → div_ceil fewer each ≤ div_ceil more each
ceil_grows fewer more zero less = omega arith
ceil_grows fewer more (suc each) less =
    let least = div_ceil_times fewer (suc each) (omega arith) in
    let most = div_ceil_times more (suc each) (omega arith) in
    let below : div_ceil fewer (suc each) * suc each < suc (div_ceil more (suc each)) * suc each = omega (arith, least.1, most.0, suc-mul (div_ceil more (suc each)) (suc each)) in
    omega (arith, lt_of_mul-lt-mul_right (suc each) below)

grows : (block limit fewer more : ℕ) → fewer ≤ more → need fewer (record { block = block; limit = limit }) ≤ need more (record { block = block; limit = limit })
grows block zero fewer more less = omega arith
grows block (suc limit) fewer more less = rw (need-some fewer block limit, need-some more block limit) (ceil_grows fewer more (block / suc limit) less)

pub need_grows : NeedGrows
need_grows sizes fewer more less = grows sizes.block sizes.limit fewer more less
