-- The reply texts, as they are put together.
use Rattle.std.proofs.Common.{◌≡◌, ℕ, List, [], ◌∷◌, ◌++◌, refl, ap, ◌∙◌, sym, append_assoc}
use Rattle.std.specs.Prelude.{codes, decimal, Result}
use Rattle.std.proofs.lemmas.List.{append-nil}
use Rattle.gaz_outside.specs.Outside.{StationView, Prints}
use Rattle.gaz_num.specs.declared.words.FileName.{FileName}
use Rattle.gaz_num.specs.declared.words.Reason.{Reason}
use Rattle.gaz_num.specs.declared.words.Table.{Table}
use Rattle.gaz_num.specs.Dates.{date_text}
use Rattle.gaz_num.specs.Words.{file_text, reason_text, table_text}
use Rattle.gaz_num.specs.Refusal.{Refusal, request, sequence, absent, shelf, too_long, malformed, full}
use Rattle.gaz_reply.specs.declared.refusal.Refusal as code
use Rattle.gaz_reply.specs.declared.reply.Done.TheVariants.{Load, Day}
use Rattle.gaz_reply.specs.Reply.{reply_text, refused, refusal_of, done}
use Rattle.gaz_reply.specs.Tells.{MayBeCut}
use Rattle.gaz_reply.proofs.Cuts.{same_cut}
use Rattle.gaz_reply.proofs.Pieces.{same_print}

-- a line with its LF, as the lines of a reply have it
one_line : (front text : List ℕ) → front ++ (text ++ 10 ∷ []) ≡ front ++ ((text ++ 10 ∷ []) ++ [])
one_line front text = ap (λ xs. front ++ xs) (sym (append-nil (text ++ 10 ∷ [])))

pub load_text : (date : ℕ) → codes "ok load " ++ date_text date ++ codes "\n" ≡ reply_text (done (Load date))
load_text date = one_line (codes "ok load ") (date_text date)

pub day_text : (date : ℕ) → codes "ok day " ++ date_text date ++ codes "\n" ≡ reply_text (done (Day date))
day_text date = one_line (codes "ok day ") (date_text date)

pub request_text : (word : List ℕ) → codes "refused request " ++ word ++ codes "\n" ≡ reply_text (refused (request word))
request_text word = one_line (codes "refused request ") word

pub sequence_text : (have : ℕ) → codes "refused sequence " ++ date_text have ++ codes "\n" ≡ reply_text (refused (sequence have))
sequence_text have = one_line (codes "refused sequence ") (date_text have)

pub absent_text : (file : FileName) → codes "refused absent " ++ file_text file ++ codes "\n" ≡ reply_text (refused (absent file))
absent_text file = one_line (codes "refused absent ") (file_text file)

pub shelf_text : (file : FileName) → codes "refused shelf " ++ file_text file ++ codes "\n" ≡ reply_text (refused (shelf file))
shelf_text file = one_line (codes "refused shelf ") (file_text file)

pub too_long_text : (file : FileName) → codes "refused toolong " ++ file_text file ++ codes "\n" ≡ reply_text (refused (too_long file))
too_long_text file = one_line (codes "refused toolong ") (file_text file)

-- a file, a number and a word, with a space between each two
spaced_line : (file number word : List ℕ) → ((((file ++ 32 ∷ []) ++ number) ++ 32 ∷ []) ++ word) ++ 10 ∷ [] ≡ ((file ++ 32 ∷ (number ++ 32 ∷ word)) ++ 10 ∷ []) ++ []
spaced_line file number word = simp (append_assoc, append-nil) refl

pub malformed_text : (file : FileName) (number : ℕ) (reason : Reason) (word : List ℕ) → word ≡ reason_text reason → codes "refused malformed " ++ file_text file ++ codes " " ++ decimal number ++ codes " " ++ word ++ codes "\n" ≡ reply_text (refused (malformed file number reason))
malformed_text file number reason word is =
    ap (λ w. codes "refused malformed " ++ file_text file ++ codes " " ++ decimal number ++ codes " " ++ w ++ codes "\n") is
    ∙ ap (λ xs. codes "refused malformed " ++ xs) (spaced_line (file_text file) (decimal number) (reason_text reason))

pub full_text : (file : FileName) (number : ℕ) (table : Table) (word : List ℕ) → word ≡ table_text table → codes "refused full " ++ file_text file ++ codes " " ++ decimal number ++ codes " " ++ word ++ codes "\n" ≡ reply_text (refused (full file number table))
full_text file number table word is =
    ap (λ w. codes "refused full " ++ file_text file ++ codes " " ++ decimal number ++ codes " " ++ w ++ codes "\n") is
    ∙ ap (λ xs. codes "refused full " ++ xs) (spaced_line (file_text file) (decimal number) (table_text table))

-- a text that tells this refusal, printed
pub tells : {T E : Type 0} (text : List ℕ) (why : Refusal) (refusal : code.Refusal) (old new : StationView) (result : Result T E) → text ≡ reply_text (refused why) → why ≡ refusal_of refusal → Prints text old new result → Prints (reply_text (refused (refusal_of refusal))) old new result
tells text why refusal old new result e is p =
    same_print text (reply_text (refused (refusal_of refusal))) old new result (e ∙ ap (λ r. reply_text (refused r)) is) p

-- a text that tells this refusal, cut
pub tells_cut : (text : List ℕ) (why : Refusal) (refusal : code.Refusal) (old new : StationView) → text ≡ reply_text (refused why) → why ≡ refusal_of refusal → MayBeCut text old new → MayBeCut (reply_text (refused (refusal_of refusal))) old new
tells_cut text why refusal old new e is cut =
    same_cut text (reply_text (refused (refusal_of refusal))) old new (e ∙ ap (λ r. reply_text (refused r)) is) cut
