-- What is printed for a request, byte for byte.
use Rattle.std.specs.Prelude.{ℕ, Bool, true, false, ◌||◌, ◌&&◌, List, [], ◌∷◌, ◌++◌, length, drop, codes, decimal, flat_map, count_by, is_some, nat_eq}
use Rattle.std.specs.List.{join_with_byte, starts_with}
use Rattle.gaz_num.specs.Dates.{date_text, day_in}
use Rattle.gaz_num.specs.Pieces.{ended_lines}
use Rattle.gaz_num.specs.Words.{reason_text, table_text, file_text}
use Rattle.gaz_num.specs.Refusal.{Refusal, request, not_loaded, sequence, absent, shelf, too_long, malformed, full, memory}
use Rattle.gaz_reply.specs.declared.reply.Done.{Done}
use Rattle.gaz_reply.specs.declared.reply.Done.TheVariants.{Load, Day}
use Rattle.gaz_reply.specs.declared.refusal.Refusal as code
use Rattle.gaz_reply.specs.declared.refusal.Refusal.TheVariants as code_of

-- a reply: a change that was made, lines, or a refusal
pub data Reply : Type 0 where
  done : Done → Reply
  rows : List (List ℕ) → Reply
  refused : Refusal → Reply

-- one space between two words
abbrev pub spaced : List (List ℕ) → List ℕ
spaced words = join_with_byte 32 words

-- a change as it is told
abbrev pub done_words : Done → List (List ℕ)
done_words (Load date) = codes "load" ∷ date_text date ∷ []
done_words (Day date) = codes "day" ∷ date_text date ∷ []

-- a refusal as it is told
abbrev pub refusal_words : Refusal → List (List ℕ)
refusal_words (request word) = codes "request" ∷ word ∷ []
refusal_words not_loaded = codes "notloaded" ∷ []
refusal_words (sequence have) = codes "sequence" ∷ date_text have ∷ []
refusal_words (absent file) = codes "absent" ∷ file_text file ∷ []
refusal_words (shelf file) = codes "shelf" ∷ file_text file ∷ []
refusal_words (too_long file) = codes "toolong" ∷ file_text file ∷ []
refusal_words (malformed file line reason) = codes "malformed" ∷ file_text file ∷ decimal line ∷ reason_text reason ∷ []
refusal_words (full file line table) = codes "full" ∷ file_text file ∷ decimal line ∷ table_text table ∷ []
refusal_words memory = codes "memory" ∷ []

-- the last line of a reply that tells lines
abbrev pub end_line : ℕ → List ℕ
end_line count = spaced (codes "ok" ∷ decimal count ∷ [])

-- the lines of a reply, rows as they are stored
abbrev pub reply_lines : Reply → List (List ℕ)
reply_lines (done change) = spaced (codes "ok" ∷ done_words change) ∷ []
reply_lines (rows lines) = lines ++ end_line (length lines) ∷ []
reply_lines (refused why) = spaced (codes "refused" ∷ refusal_words why) ∷ []

-- each line with an LF
abbrev pub with_ends : List (List ℕ) → List ℕ
with_ends lines = flat_map (λ line. line ++ 10 ∷ []) lines

-- the text of a reply
abbrev pub reply_text : Reply → List ℕ
reply_text reply = with_ends (reply_lines reply)

-- the reply says that the gazetteer is changed
abbrev pub is_change : Reply → Bool
is_change (done change) = true
is_change (rows lines) = false
is_change (refused why) = false

-- the line is exactly `ok load DATE` or `ok day DATE`
abbrev pub is_ack : List ℕ → Bool
is_ack line =
    (starts_with nat_eq line (codes "ok load ") && is_some (day_in (drop 8 line)))
    || (starts_with nat_eq line (codes "ok day ") && is_some (day_in (drop 7 line)))

-- how many whole lines of a text acknowledge a change
abbrev pub acks : List ℕ → ℕ
acks text = count_by is_ack (ended_lines text)

-- the refusal that the code's type stands for
abbrev pub refusal_of : code.Refusal → Refusal
refusal_of (code_of.Request word) = request word.now
refusal_of code_of.NotLoaded = not_loaded
refusal_of (code_of.Sequence have) = sequence have
refusal_of (code_of.Absent file) = absent file
refusal_of (code_of.Shelf file) = shelf file
refusal_of (code_of.TooLong file) = too_long file
refusal_of (code_of.Malformed file line reason) = malformed file line reason
refusal_of (code_of.Full file line table) = full file line table
refusal_of code_of.Memory = memory
