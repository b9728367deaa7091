-- What `disasm` and `unpack` print of files whose bytes are known.
use Rattle.std.proofs.Common.{◌≡◌, ℕ, ◌+◌, ◌<◌, Bool, List, [], ◌∷◌, ◌++◌, length, map, take, get_or, Option, Some, Result, Ok, Err, OnOk, IfSome, inl, inr, refl, ap, sym, subst, ◌∙◌, append_assoc, add-one, arith}
use Rattle.std.specs.Prelude.{codes, Vec}
use Rattle.std.specs.Io.KnownBytes.{Appends}
use Rattle.std.specs.List.{join_with_byte}
use Rattle.std.specs.declared.alloc.Global.{Global}
use Rattle.std.proofs.Math.Nat.{eq-zero-or-pos}
use Rattle.std.proofs.Math.Seq.{take-suc}
use Rattle.std.proofs.lemmas.List.{length-map, length-take, map-append}
use Rattle.clap.specs.declared.parser.matches.ArgMatches.{ArgMatches}
use Rattle.emit_append.specs.Unpacking.{record_bytes, unpacked}
use Rattle.instruction_set.specs.declared.instruction.Instruction.{Instruction}
use Rattle.command_files.specs.Arguments.{number_of}
use Rattle.command_files.proofs.Proved.{read_holds}
use Rattle.command_programs.specs.Asked.{Spell, is_set}
use Rattle.command_programs.specs.MakesProgram.{program_file_of}
use Rattle.command_programs.specs.Printed.{PrintsListing, PrintsRecords, blocks_file_of, listed, record_object, record_objects, records_text}

-- the listing of a program was printed, which was decoded of the file that is asked for
pub prints_listing : {T E : Type 0} (result : Result T E) (matches : ArgMatches) (contents : List ℕ → Option (List ℕ)) (path : List ℕ) (program : List (Option Instruction))
    (with_slots : Bool) (text : List ℕ) (before after : Option (List ℕ)) → path ≡ program_file_of matches → with_slots ≡ is_set matches (codes "slots")
    → text ≡ listed with_slots program → Spell (contents path) program → OnOk result (Appends before after text)
    → OnOk result (PrintsListing matches (contents (program_file_of matches)) before after)
prints_listing (Err error) matches contents path program with_slots text before after is asked lists spelled printed = tt
prints_listing (Ok done) matches contents path program with_slots text before after is asked lists spelled printed = record {
  program = program;
  spelled = subst (λ (p : List ℕ). Spell (contents p) program) is spelled;
  printed = subst (λ (set : Bool). Appends before after (listed set program)) asked (subst (λ (t : List ℕ). Appends before after t) lists printed);
}

-- the lines of records were printed, which were unpacked of the file that is asked for
pub prints_records : {T E : Type 0} (result : Result T E) (matches : ArgMatches) (contents : List ℕ → Option (List ℕ)) (path file slice : List ℕ) (block size : ℕ)
    (records : List (List ℕ)) (json : Bool) (text : List ℕ) (before after : Option (List ℕ)) → path ≡ blocks_file_of matches → slice ≡ file → IfSome (contents path) (λ bytes. file ≡ bytes)
    → number_of matches (codes "block") ≡ Some block → size ≡ block → unpacked size slice ≡ Ok records → json ≡ is_set matches (codes "json")
    → text ≡ records_text json records
    → OnOk result (Appends before after text) → OnOk result (PrintsRecords matches (contents (blocks_file_of matches)) before after)
prints_records (Err error) matches contents path file slice block size records json text before after is slice_is held asked sized unpacks formed lists printed = tt
prints_records (Ok done) matches contents path file slice block size records json text before after is slice_is held asked sized unpacks formed lists printed = record {
  block = block;
  asked = asked;
  records = records;
  held = read_holds contents path (blocks_file_of matches) file slice (λ bytes. unpacked block bytes ≡ Ok records) is slice_is held
      (subst (λ (n : ℕ). unpacked n slice ≡ Ok records) sized unpacks);
  printed = subst (λ (set : Bool). Appends before after (records_text set records)) formed (subst (λ (t : List ℕ). Appends before after t) lists printed);
}

-- one list more is joined behind others
join_more : (c : ℕ) (pieces : List (List ℕ)) (piece : List ℕ) → 0 < length pieces
    → join_with_byte c (pieces ++ piece ∷ []) ≡ join_with_byte c pieces ++ (c ∷ piece)
join_more c [] piece some = absurd (omega arith)
join_more c (first ∷ []) piece some = refl
join_more c (first ∷ second ∷ rest) piece some =
    let left : 0 < length (second ∷ rest) = omega arith in
    ap (λ (t : List ℕ). first ++ (c ∷ t)) (join_more c (second ∷ rest) piece left)
    ∙ sym (append_assoc first (c ∷ join_with_byte c (second ∷ rest)) (c ∷ piece))

module _ (records : List (Vec ℕ Global)) (i : ℕ) (other : Vec ℕ Global) (below : i < length records) where
  -- the objects of the first records, and of one more
  abbrev so_far : List ℕ
  so_far = record_objects (record_bytes (take i records))

  abbrev one_more : List ℕ
  one_more = record_objects (record_bytes (take (i + 1) records))

  abbrev object : List ℕ
  object = record_object (get_or records i other).items

  split : record_bytes (take (i + 1) records) ≡ record_bytes (take i records) ++ (get_or records i other).items ∷ []
  split = ap (λ (n : ℕ). record_bytes (take n records)) (add-one i) ∙ ap record_bytes (take-suc records i other below)
      ∙ map-append (λ (r : Vec ℕ Global). r.items) (take i records) (get_or records i other ∷ [])

  joined : one_more ≡ join_with_byte 44 (map record_object (record_bytes (take i records)) ++ object ∷ [])
  joined = ap record_objects split
      ∙ ap (join_with_byte 44) (map-append record_object (record_bytes (take i records)) ((get_or records i other).items ∷ []))

  first_object : i ≡ 0 → one_more ≡ so_far ++ object
  first_object none =
      joined ∙ ap (λ (n : ℕ). join_with_byte 44 (map record_object (record_bytes (take n records)) ++ object ∷ [])) none
      ∙ ap (λ (n : ℕ). record_objects (record_bytes (take n records)) ++ object) (sym none)

  next_object : 0 < i → one_more ≡ (so_far ++ codes ",") ++ object
  next_object some =
      let objects = map record_object (record_bytes (take i records)) in
      let left : 0 < length objects =
      omega (arith, length-map (record_bytes (take i records)) record_object, length-map (take i records) (λ (r : Vec ℕ Global). r.items), length-take i records) in
      joined ∙ join_more 44 objects object left ∙ sym (append_assoc so_far (codes ",") object)

  -- a text has the objects of the first records behind a front; it grew by a comma, where these are some, and by the next object
  pub object_pushed : (front before between after : List ℕ) → before ≡ front ++ so_far → (i ≡ 0 → between ≡ before) → (0 < i → between ≡ before ++ codes ",")
      → after ≡ between ++ object → after ≡ front ++ one_more
  object_pushed front before between after held at_first then pushed =
      elim (eq-zero-or-pos i) [
        | inl none ↦ pushed ∙ ap (λ (t : List ℕ). t ++ object) (at_first none ∙ held) ∙ append_assoc front so_far object
            ∙ ap (λ (t : List ℕ). front ++ t) (sym (first_object none))
        | inr some ↦ pushed ∙ ap (λ (t : List ℕ). t ++ object) (then some ∙ ap (λ (t : List ℕ). t ++ codes ",") held)
            ∙ ap (λ (t : List ℕ). t ++ object) (append_assoc front so_far (codes ","))
            ∙ append_assoc front (so_far ++ codes ",") object ∙ ap (λ (t : List ℕ). front ++ t) (sym (next_object some))
      ]
