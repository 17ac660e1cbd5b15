-- The text of a document is read alike with a line feed behind it.
use Rattle.std.proofs.Common.{◌≡◌, ℕ, ◌^◌, ◌<◌, List, [], ◌∷◌, ◌++◌, codes, refl, sym, ap, ap₂, ◌∙◌, append_assoc, append-nil, arith, decimal, option_and_then}
use Rattle.std.specs.Fmt.{digits}
use Rattle.json.specs.Token.{begin_object, end_object, string, number}
use Rattle.json.specs.Lex.{Lexeme, token, comma, colon, string_token, lex, between, fresh, punctuate}
use Rattle.json.specs.Print.{escape, escape_byte, quoted}
use Rattle.json.specs.Json as json
use Rattle.json.proofs.Printed.Strings.{content-escape, lex-escape}
use Rattle.json.proofs.Printed.Numbers.{lex-number}
use Rattle.json.proofs.Printed.Decimals.{IsNumber-decimal}
use Rattle.serde_json.specs.Read.{read, of_json, max_depth}
use Rattle.serde_json.specs.Written.{compact_text}
use Rattle.vx_value.specs.Texts.{ByteString}
use Rattle.vx_checkpoint.specs.Document.{document_of}

-- a document's text from each part on, with something behind it
abbrev from_version : ByteString → ByteString
from_version rest = 44 ∷ (quoted (codes "version") ++ 58 ∷ (decimal 1 ++ 125 ∷ rest))

abbrev from_path : ByteString → ByteString → ByteString
from_path path rest = 44 ∷ (quoted (codes "path") ++ 58 ∷ (quoted path ++ from_version rest))

abbrev line : ByteString → ℕ → ByteString → ByteString
line path offset rest = 123 ∷ (quoted (codes "offset") ++ 58 ∷ (decimal offset ++ from_path path rest))

-- what it is cut into
abbrev cut : ByteString → ℕ → List Lexeme → List Lexeme
cut path offset rest =
    token begin_object ∷ token (string (codes "offset")) ∷ colon ∷ token (number (decimal offset)) ∷ comma
    ∷ token (string (codes "path")) ∷ colon ∷ token (string path) ∷ comma
    ∷ token (string (codes "version")) ∷ colon ∷ token (number (decimal 1)) ∷ token end_object ∷ rest

-- a text in quotes, and what follows it
lex_quoted : (s rest : ByteString) → lex between (quoted s ++ rest) ≡ token (string s) ∷ lex between rest
unfolding lex
lex_quoted s rest =
    ap (λ l. lex between (34 ∷ l)) (append_assoc (escape s) (34 ∷ []) rest)
    ∙ ap₂ (λ o l. token (string_token o) ∷ l) (content-escape s rest) (lex-escape s rest)

lex_version : (rest : ByteString) → lex between (from_version rest)
    ≡ comma ∷ token (string (codes "version")) ∷ colon ∷ token (number (decimal 1)) ∷ token end_object ∷ lex between rest
unfolding lex
lex_version rest =
    ap (λ l. comma ∷ l) (lex_quoted (codes "version") (58 ∷ (decimal 1 ++ 125 ∷ rest)))
    ∙ ap (λ l. comma ∷ token (string (codes "version")) ∷ colon ∷ l)
    (lex-number (decimal 1) (125 ∷ rest) (IsNumber-decimal 1 (omega arith)) refl)

lex_path : (path rest : ByteString) → lex between (from_path path rest)
    ≡ comma ∷ token (string (codes "path")) ∷ colon ∷ token (string path) ∷ lex between (from_version rest)
unfolding lex
lex_path path rest =
    ap (λ l. comma ∷ l) (lex_quoted (codes "path") (58 ∷ (quoted path ++ from_version rest)))
    ∙ ap (λ l. comma ∷ token (string (codes "path")) ∷ colon ∷ l) (lex_quoted path (from_version rest))

lex_line : (path : ByteString) (offset : ℕ) (rest : ByteString) → offset < 2 ^ 64 → lex between (line path offset rest) ≡ cut path offset (lex between rest)
unfolding lex
lex_line path offset rest lt =
    ap (λ l. token begin_object ∷ l) (lex_quoted (codes "offset") (58 ∷ (decimal offset ++ from_path path rest)))
    ∙ ap (λ l. token begin_object ∷ token (string (codes "offset")) ∷ colon ∷ l)
    (lex-number (decimal offset) (from_path path rest) (IsNumber-decimal offset lt) refl
    ∙ ap (λ l. token (number (decimal offset)) ∷ l)
    (lex_path path rest ∙ ap (λ l. comma ∷ token (string (codes "path")) ∷ colon ∷ token (string path) ∷ l) (lex_version rest)))

-- the document's text is that line
is_line : (path : ByteString) (offset : ℕ) (rest : ByteString) → compact_text (document_of path offset) ++ rest ≡ line path offset rest
unfolding document_of escape_byte digits
is_line path offset rest =
    ap (λ l. 123 ∷ (quoted (codes "offset") ++ 58 ∷ l)) (append_assoc (decimal offset) (from_path path []) rest)
    ∙ ap (λ l. 123 ∷ (quoted (codes "offset") ++ 58 ∷ (decimal offset ++ 44 ∷ (quoted (codes "path") ++ 58 ∷ l))))
    (append_assoc (quoted path) (from_version []) rest)

no_more : lex between (10 ∷ []) ≡ lex between []
unfolding lex
no_more = refl

pub read_line : (path : ByteString) (offset : ℕ) → offset < 2 ^ 64
    → read (compact_text (document_of path offset) ++ 10 ∷ []) ≡ read (compact_text (document_of path offset))
read_line path offset lt =
    ap (λ ls. option_and_then of_json (option_and_then (λ p. json.if_last p.0 p.1) (json.value max_depth (punctuate fresh ls))))
    (ap (lex between) (is_line path offset (10 ∷ []))
    ∙ lex_line path offset (10 ∷ []) lt
    ∙ ap (cut path offset) no_more
    ∙ sym (lex_line path offset [] lt)
    ∙ ap (lex between) (sym (is_line path offset []) ∙ append-nil (compact_text (document_of path offset))))
