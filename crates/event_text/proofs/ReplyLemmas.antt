-- Files of replies, one line after the other.
use Rattle.std.proofs.Common.{◌≡◌, ℕ, true, List, [], ◌∷◌, ◌++◌, length, map, sym, ap, ◌∙◌, append_assoc, append-nil, arith}
use Rattle.std.proofs.lemmas.List.{map-append}
use Rattle.std.proofs.lemmas.List.Elements.{All-push}
use Rattle.std.specs.List.{All, AllPass}
use Rattle.std.specs.Str.Lines.{lines}
use Rattle.event_text.specs.declared.reply_file.ToldReply.{ToldReply}
use Rattle.event_text.specs.ReplyFile.{HasItsData, can_be_given, reply_of, told_text}

-- one more reply
pub reply_read : (all rest behind : List (List ℕ)) (before : List ToldReply) (told : ToldReply) (line : List ℕ) → all ≡ map told_text before ++ rest → rest ≡ line ∷ behind → line ≡ told_text told
    → all ≡ map told_text (before ++ told ∷ []) ++ behind
reply_read all rest behind before told line read cut is =
    read
    ∙ ap (λ (ls : List (List ℕ)). map told_text before ++ ls) (cut ∙ ap (λ (text : List ℕ). text ∷ behind) is)
    ∙ sym (append_assoc (map told_text before) (told_text told ∷ []) behind)
    ∙ ap (λ (ls : List (List ℕ)). ls ++ behind) (sym (map-append told_text before (told ∷ [])))

-- all lines are read
pub replies_read : (all : List (List ℕ)) (before : List ToldReply) (rest : List ℕ) → all ≡ map told_text before ++ lines rest → length rest ≡ 0 → all ≡ map told_text before
replies_read all before [] read e = read ∙ append-nil (map told_text before)
replies_read all before (b ∷ rest) read e = absurd (omega (arith, e))

-- one more reply has its data
pub one_more_whole : (before : List ToldReply) (told : ToldReply) → All HasItsData before → HasItsData told → All HasItsData (before ++ told ∷ [])
one_more_whole before told whole has = All-push HasItsData before told whole has

-- one more reply can be given
pub one_more_given : (before : List ToldReply) (told : ToldReply) → AllPass (λ given. can_be_given (reply_of given)) before → can_be_given (reply_of told) ≡ true
    → AllPass (λ given. can_be_given (reply_of given)) (before ++ told ∷ [])
one_more_given before told given is = All-push (λ given. can_be_given (reply_of given) ≡ true) before told given is
