-- A sector after some bytes, what is written over it and after it, and what a crash leaves of that.
use Rattle.std.proofs.Common.{◌≡◌, ◌+◌, ℕ, List, ◌++◌, length, take, drop, sym, ◌∙◌, ap, arith, append_assoc, length-append, take-append-drop}
use Rattle.std.proofs.lemmas.List.{take_at, drop_at, drop-drop}
use Rattle.stored_file.specs.File.{is_written, Torn}

module _ (begin sector : List ℕ) (gate : ℕ) (ends : gate ≡ length begin) (size : length sector ≡ 4096) where
  apart : (rest : List ℕ) → begin ++ (sector ++ rest) ≡ (begin ++ sector) ++ rest
  apart rest = sym (append_assoc begin sector rest)

  length-both : length (begin ++ sector) ≡ gate + 4096
  length-both = omega (arith, length-append begin sector, ends, size)

  module _ (file rest : List ℕ) (is : file ≡ begin ++ (sector ++ rest)) where
    before_gate : take gate file ≡ begin
    before_gate = ap (λ (l : List ℕ). take gate l) is ∙ take_at begin (sector ++ rest) gate (sym ends)

    up_to_gate : take (gate + 4096) file ≡ begin ++ sector
    up_to_gate = ap (λ (l : List ℕ). take (gate + 4096) l) (is ∙ apart rest) ∙ take_at (begin ++ sector) rest (gate + 4096) length-both

    after_gate : drop (gate + 4096) file ≡ rest
    after_gate = ap (λ (l : List ℕ). drop (gate + 4096) l) (is ∙ apart rest) ∙ drop_at (begin ++ sector) rest (gate + 4096) length-both

    pub length_is : length file ≡ gate + 4096 + length rest
    length_is = omega (arith, ap length (is ∙ apart rest), length-append (begin ++ sector) rest, length-both)

    -- bytes are written after the sector
    pub put : (bytes : List ℕ) → is_written (gate + 4096) bytes file ≡ begin ++ (sector ++ (bytes ++ drop (gate + 4096 + length bytes) file))
    put bytes =
        let past = drop (gate + 4096 + length bytes) file in
        ap (λ (l : List ℕ). l ++ bytes ++ past) up_to_gate ∙ append_assoc (begin ++ sector) bytes past ∙ append_assoc begin sector (bytes ++ past)

    -- others are written over it
    pub over : (gates : List ℕ) → length gates ≡ 4096 → is_written gate gates file ≡ begin ++ (gates ++ rest)
    over gates same =
        ap (λ (l : List ℕ). l ++ gates ++ drop (gate + length gates) file) before_gate
        ∙ ap (λ (n : ℕ). begin ++ gates ++ drop (gate + n) file) same
        ∙ ap (λ (l : List ℕ). begin ++ gates ++ l) after_gate
        ∙ append_assoc begin gates rest

    -- what a crash leaves of a write after it
    pub torn_after : (m : ℕ) (c : List ℕ) → Torn (gate + 4096) m file c → c ≡ begin ++ (sector ++ drop (gate + 4096) c)
    torn_after m c torn =
        sym (take-append-drop (gate + 4096) c)
        ∙ ap (λ (l : List ℕ). l ++ drop (gate + 4096) c) (torn.before ∙ up_to_gate)
        ∙ append_assoc begin sector (drop (gate + 4096) c)

    -- and of a write over the sector itself
    pub torn_gate : (c : List ℕ) → Torn gate 4096 file c → c ≡ begin ++ (take 4096 (drop gate c) ++ rest)
    torn_gate c torn =
        let behind : drop 4096 (drop gate c) ≡ rest = drop-drop 4096 gate c ∙ torn.after ∙ after_gate in
        sym (take-append-drop gate c)
        ∙ ap (λ (l : List ℕ). l ++ drop gate c) (torn.before ∙ before_gate)
        ∙ ap (λ (l : List ℕ). begin ++ l) (sym (take-append-drop 4096 (drop gate c)) ∙ ap (λ (l : List ℕ). take 4096 (drop gate c) ++ l) behind)
