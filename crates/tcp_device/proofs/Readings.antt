-- A PDU that isn't whole takes at least one of the bytes that come.
use Rattle.std.proofs.Common.{◌≡◌, ℕ, ◌<◌, ◌≤◌, ◌+◌, Bool, true, false, cond, nat_lt, List, ◌++◌, length, take, Option, None, Some, Result, Ok, Err, refl, sym, ap, subst, ◌∙◌, inl, inr, length-append, lit≤, arith}
use Rattle.std.specs.Option.{ok_or}
use Rattle.std.proofs.lemmas.Bool.{and_parts, cases_lt, le-ltb, leb-true, lt-ltb}
use Rattle.std.proofs.lemmas.List.{take-append-le}
use Rattle.common_definitions.specs.Checks.{first_failed, unless_failed}
use Rattle.common_definitions.specs.Readings.{◌>>=◌}
use Rattle.common_definitions.proofs.Proved.{demanded, none_failed, passed, value_given}
use Rattle.tcp_pdus.specs.CommonHeader.{common_header_in}
use Rattle.tcp_pdus.specs.Received.{checked, checks, header_bytes, host_pdu, least_bytes, may_come}
use Rattle.tcp_pdus.specs.declared.common_header.CommonHeader.{CommonHeader}
use Rattle.tcp_pdus.specs.declared.fatal_error.FatalError.{FatalError}
use Rattle.tcp_pdus.specs.declared.received.Awaits.{Awaits}
use Rattle.tcp_pdus.specs.declared.received.HostPdu.{HostPdu}
use Rattle.tcp_pdus.specs.declared.received.HostPdu.TheVariants.{IcReq, H2cTermReq, CapsuleCmd, H2cData}
use Rattle.tcp_connection.specs.declared.expected.Expected.{Expected}
use Rattle.tcp_connection.specs.declared.expected.Progress.{Progress}
use Rattle.tcp_connection.specs.declared.expected.Progress.TheVariants.{Partial, Whole, Failed}
use Rattle.tcp_connection.specs.Reading.{behind_common, behind_header, header_error, reading}

-- ---- what passes at a common header

none_fails : (awaits : Awaits) (h : CommonHeader) (pdu : HostPdu) (fault : FatalError) (found : Option HostPdu)
    → (ok_or found fault >>= λ q. unless_failed (first_failed (checks awaits q h)) q) ≡ Ok pdu → first_failed (checks awaits pdu h) ≡ None
none_fails awaits h pdu fault None e = absurd cc
none_fails awaits h pdu fault (Some q) e =
    let same : pdu ≡ q = value_given (first_failed (checks awaits q h)) q pdu (sym e) in
    subst (λ (p : HostPdu). first_failed (checks awaits p h) ≡ None) (sym same) (none_failed (first_failed (checks awaits q h)) q pdu e)

header_least : (pdu : HostPdu) → header_bytes pdu ≤ least_bytes pdu
header_least IcReq = lit≤ tt
header_least H2cTermReq = lit≤ tt
header_least CapsuleCmd = lit≤ tt
header_least H2cData = lit≤ tt

header_more : (pdu : HostPdu) → 8 ≤ header_bytes pdu
header_more IcReq = lit≤ tt
header_more H2cTermReq = lit≤ tt
header_more CapsuleCmd = lit≤ tt
header_more H2cData = lit≤ tt

-- a PDU is as long as its header
header_fits : (awaits : Awaits) (h : CommonHeader) (pdu : HostPdu) → checked awaits h ≡ Ok pdu → header_bytes pdu ≤ h.pdu_length
header_fits awaits h pdu e =
    let none = none_fails awaits h pdu _ (host_pdu h.kind) e in
    let least : least_bytes pdu ≤ h.pdu_length = leb-true _ _ (and_parts _ _ (demanded _ _ (passed (checks awaits pdu h) 4 none))).0 in
    let more = header_least pdu in omega (arith, least, more)

-- and it may come
comes : (awaits : Awaits) (h : CommonHeader) (pdu : HostPdu) → checked awaits h ≡ Ok pdu → may_come awaits pdu ≡ true
comes awaits h pdu e = demanded _ _ (passed (checks awaits pdu h) 0 (none_fails awaits h pdu _ (host_pdu h.kind) e))

-- ---- what bytes come to

-- all of them, where they are less than a PDU
behind_header_all : (pdu : HostPdu) (common : CommonHeader) (bytes : List ℕ) (error : Option FatalError)
    → (behind_header pdu common bytes error).0 ≡ Partial → behind_header pdu common bytes error ≡ (Partial, length bytes)
behind_header_all pdu common bytes (Some error) is = absurd cc
behind_header_all pdu common bytes None is =
    elim (nat_lt (length bytes) common.pdu_length) as (λ b. (cond {A = Progress × ℕ} b (Partial, length bytes) (Whole pdu, common.pdu_length)).0 ≡ Partial
    → cond {A = Progress × ℕ} b (Partial, length bytes) (Whole pdu, common.pdu_length) ≡ (Partial, length bytes)) [
      | true ↦ (λ partial. refl)
      | false ↦ (λ partial. absurd cc)
    ] is

behind_common_all : (e : Expected) (common : CommonHeader) (bytes : List ℕ) (r : Result HostPdu FatalError)
    → (behind_common e common bytes r).0 ≡ Partial → behind_common e common bytes r ≡ (Partial, length bytes)
behind_common_all e common bytes (Err error) is = absurd cc
behind_common_all e common bytes (Ok pdu) is =
    let later : Progress × ℕ = behind_header pdu common bytes (header_error e common pdu (take (header_bytes pdu) bytes)) in
    elim (nat_lt (length bytes) (header_bytes pdu)) as (λ b. (cond {A = Progress × ℕ} b (Partial, length bytes) later).0 ≡ Partial
    → cond {A = Progress × ℕ} b (Partial, length bytes) later ≡ (Partial, length bytes)) [
      | true ↦ (λ partial. refl)
      | false ↦ behind_header_all pdu common bytes (header_error e common pdu (take (header_bytes pdu) bytes))
    ] is

pub reads_all : (e : Expected) (bytes : List ℕ) → (reading e bytes).0 ≡ Partial → reading e bytes ≡ (Partial, length bytes)
reads_all e bytes is =
    let common : CommonHeader = common_header_in (take 8 bytes) in
    let later : Progress × ℕ = behind_common e common bytes (checked e.awaits common) in
    elim (nat_lt (length bytes) 8) as (λ b. (cond {A = Progress × ℕ} b (Partial, length bytes) later).0 ≡ Partial
    → cond {A = Progress × ℕ} b (Partial, length bytes) later ≡ (Partial, length bytes)) [
      | true ↦ (λ partial. refl)
      | false ↦ behind_common_all e common bytes (checked e.awaits common)
    ] is

-- a PDU that is whole passed at its common header
behind_header_whole : (other pdu : HostPdu) (common : CommonHeader) (bytes : List ℕ) (error : Option FatalError)
    → (behind_header other common bytes error).0 ≡ Whole pdu → other ≡ pdu
behind_header_whole other pdu common bytes (Some error) is = absurd cc
behind_header_whole other pdu common bytes None is =
    elim (nat_lt (length bytes) common.pdu_length) as (λ b.
    (cond {A = Progress × ℕ} b (Partial, length bytes) (Whole other, common.pdu_length)).0 ≡ Whole pdu → other ≡ pdu) [
      | true ↦ (λ whole. absurd cc)
      | false ↦ (λ whole. cc)
    ] is

behind_common_whole : (e : Expected) (common : CommonHeader) (bytes : List ℕ) (r : Result HostPdu FatalError) (pdu : HostPdu)
    → (behind_common e common bytes r).0 ≡ Whole pdu → r ≡ Ok pdu
behind_common_whole e common bytes (Err error) pdu is = absurd cc
behind_common_whole e common bytes (Ok other) pdu is =
    let error : Option FatalError = header_error e common other (take (header_bytes other) bytes) in
    elim (nat_lt (length bytes) (header_bytes other)) as (λ b.
    (cond {A = Progress × ℕ} b (Partial, length bytes) (behind_header other common bytes error)).0 ≡ Whole pdu
    → ◌≡◌ {A = Result HostPdu FatalError} (Ok other) (Ok pdu)) [
      | true ↦ (λ whole. absurd cc)
      | false ↦ (λ whole. ap (λ (p : HostPdu). Ok p) (behind_header_whole other pdu common bytes error whole))
    ] is

pub whole_comes : (e : Expected) (bytes : List ℕ) (pdu : HostPdu) → (reading e bytes).0 ≡ Whole pdu → may_come e.awaits pdu ≡ true
whole_comes e bytes pdu is =
    let common : CommonHeader = common_header_in (take 8 bytes) in
    elim (nat_lt (length bytes) 8) as (λ b.
    (cond {A = Progress × ℕ} b (Partial, length bytes) (behind_common e common bytes (checked e.awaits common))).0 ≡ Whole pdu
    → may_come e.awaits pdu ≡ true) [
      | true ↦ (λ whole. absurd cc)
      | false ↦ (λ whole. comes e.awaits common pdu (behind_common_whole e common bytes (checked e.awaits common) pdu whole))
    ] is

-- ---- more bytes

-- how many are read behind a header that has just come, or that came before and passes
module _ (size more : ℕ) (pdu : HostPdu) (common : CommonHeader) (bytes : List ℕ) (long : size < length bytes) where
  of_whole : size < common.pdu_length → size < (behind_header pdu common bytes None).1
  of_whole less =
      elim (nat_lt (length bytes) common.pdu_length) as (λ b. size < (cond {A = Progress × ℕ} b (Partial, length bytes) (Whole pdu, common.pdu_length)).1) [
        | true ↦ long
        | false ↦ less
      ]

  of_new_header : size < header_bytes pdu → header_bytes pdu ≤ common.pdu_length → (error : Option FatalError)
      → size < (behind_header pdu common bytes error).1
  of_new_header less fits (Some error) = less
  of_new_header less fits None = of_whole (omega (arith, less, fits))

  of_old_header : (pending : List ℕ) → length pending ≡ size → (error : Option FatalError)
      → behind_header pdu common pending error ≡ (Partial, length pending) → size < (behind_header pdu common bytes error).1
  of_old_header pending is (Some error) partial =
      let p : Failed error ≡ Partial = ap (λ (r : Progress × ℕ). r.0) partial in absurd cc
  of_old_header pending is None partial =
      elim (cases_lt (length pending) common.pdu_length) [
        | inl less ↦ of_whole (omega (arith, is, less))
        | inr all ↦
            (let whole : behind_header pdu common pending None ≡ (Whole pdu, common.pdu_length) =
            ap (λ (b : Bool). cond {A = Progress × ℕ} b (Partial, length pending) (Whole pdu, common.pdu_length)) (le-ltb (length pending) common.pdu_length all) in
            let p : Whole pdu ≡ Partial = ap (λ (r : Progress × ℕ). r.0) (sym whole ∙ partial) in absurd cc)
      ]

module _ (e : Expected) (pending rest : List ℕ) (some : 1 ≤ length rest) where
  abbrev bytes : List ℕ
  bytes = pending ++ rest

  both : length bytes ≡ length pending + length rest
  both = length-append pending rest

  long : length pending < length bytes
  long = let sum = both in omega (arith, sum, some)

  -- a PDU of which the common header hasn't come yet
  of_new : (common : CommonHeader) (r : Result HostPdu FatalError) → ((pdu : HostPdu) → r ≡ Ok pdu → header_bytes pdu ≤ common.pdu_length)
      → length pending < 8 → length pending < (behind_common e common bytes r).1
  of_new common (Err error) fits few = few
  of_new common (Ok pdu) fits few =
      let error : Option FatalError = header_error e common pdu (take (header_bytes pdu) bytes) in
      let least = header_more pdu in
      elim (nat_lt (length bytes) (header_bytes pdu)) as (λ b.
      length pending < (cond {A = Progress × ℕ} b (Partial, length bytes) (behind_header pdu common bytes error)).1) [
        | true ↦ long
        | false ↦ of_new_header (length pending) 0 pdu common bytes long (omega (arith, least, few)) (fits pdu refl) error
      ]

  -- one of which it has
  of_old : (common : CommonHeader) (r : Result HostPdu FatalError) → ((pdu : HostPdu) → r ≡ Ok pdu → header_bytes pdu ≤ common.pdu_length)
      → behind_common e common pending r ≡ (Partial, length pending) → length pending < (behind_common e common bytes r).1
  of_old common (Err error) fits partial =
      let p : Failed error ≡ Partial = ap (λ (r : Progress × ℕ). r.0) partial in absurd cc
  of_old common (Ok pdu) fits partial =
      let h : ℕ = header_bytes pdu in
      elim (cases_lt (length pending) h) [
        | inl less ↦
            (let error : Option FatalError = header_error e common pdu (take h bytes) in
            elim (nat_lt (length bytes) h) as (λ b.
            length pending < (cond {A = Progress × ℕ} b (Partial, length bytes) (behind_header pdu common bytes error)).1) [
              | true ↦ long
              | false ↦ of_new_header (length pending) 0 pdu common bytes long less (fits pdu refl) error
            ])
        | inr enough ↦
            (let error : Option FatalError = header_error e common pdu (take h pending) in
            let here : behind_header pdu common pending error ≡ (Partial, length pending) =
            sym (ap (λ (b : Bool). cond {A = Progress × ℕ} b (Partial, length pending) (behind_header pdu common pending error)) (le-ltb (length pending) h enough))
            ∙ partial in
            let front : take h bytes ≡ take h pending = take-append-le h pending rest enough in
            let grown = long in
            let there : behind_common e common bytes (Ok pdu) ≡ behind_header pdu common bytes error =
            ap (λ (b : Bool). cond {A = Progress × ℕ} b (Partial, length bytes) (behind_header pdu common bytes (header_error e common pdu (take h bytes))))
            (le-ltb (length bytes) h (omega (arith, enough, grown)))
            ∙ ap (λ (header : List ℕ). behind_header pdu common bytes (header_error e common pdu header)) front in
            subst (λ (r : Progress × ℕ). length pending < r.1) (sym there)
            (of_old_header (length pending) 0 pdu common bytes long pending refl error here))
      ]

  at_common : (n : ℕ) → 8 ≤ n → (xs : List ℕ) → length xs ≡ n
      → reading e xs ≡ behind_common e (common_header_in (take 8 xs)) xs (checked e.awaits (common_header_in (take 8 xs)))
  at_common n enough xs is =
      let common : CommonHeader = common_header_in (take 8 xs) in
      ap (λ (b : Bool). cond {A = Progress × ℕ} b (Partial, length xs) (behind_common e common xs (checked e.awaits common)))
      (le-ltb (length xs) 8 (omega (arith, enough, is)))

  fits_in : (xs : List ℕ) (pdu : HostPdu) → checked e.awaits (common_header_in (take 8 xs)) ≡ Ok pdu
      → header_bytes pdu ≤ (common_header_in (take 8 xs)).pdu_length
  fits_in xs pdu is = header_fits e.awaits (common_header_in (take 8 xs)) pdu is

  grows_to : reading e pending ≡ (Partial, length pending) → 8 ≤ length bytes → length pending < (reading e bytes).1
  grows_to partial enough =
      let common : CommonHeader = common_header_in (take 8 bytes) in
      subst (λ (r : Progress × ℕ). length pending < r.1) (sym (at_common (length bytes) enough bytes refl))
      (elim (cases_lt (length pending) 8) [
        | inl few ↦ of_new common (checked e.awaits common) (fits_in bytes) few
        | inr many ↦
            (let front : take 8 bytes ≡ take 8 pending = take-append-le 8 pending rest many in
            let before : behind_common e common pending (checked e.awaits common) ≡ (Partial, length pending) =
            ap (λ (h : List ℕ). behind_common e (common_header_in h) pending (checked e.awaits (common_header_in h))) front
            ∙ sym (at_common (length pending) many pending refl) ∙ partial in
            of_old common (checked e.awaits common) (fits_in bytes) before)
      ])

  -- more is read than before
  pub grows : reading e pending ≡ (Partial, length pending) → length pending < (reading e bytes).1
  grows partial = elim (cases_lt (length bytes) 8) [
    | inl few ↦
        subst (λ (r : Progress × ℕ). length pending < r.1)
        (sym (ap (λ (b : Bool). cond {A = Progress × ℕ} b (Partial, length bytes) (behind_common e (common_header_in (take 8 bytes)) bytes (checked e.awaits (common_header_in (take 8 bytes)))))
        (lt-ltb (length bytes) 8 few))) long
    | inr enough ↦ grows_to partial enough
  ]
