-- Texts of JSON (RFC 8259).
use Rattle.std.specs.Prelude.{ℕ, ◌+◌, ◌-◌, ◌/◌, ◌%◌, ◌==◌, nat_le, nat_lt, Bool, ◌&&◌, ◌||◌, if◌then◌else◌, List, [], ◌∷◌, ◌++◌, codes, get_or, length}
use Rattle.std.specs.List.{flat_map}
use Rattle.rr_graph.specs.Fabric.{numbers_below}
use Rattle.report_run.specs.Texts.{digit_code}

-- ---- the characters of UTF-8 that have two bytes or more (RFC 3629, section 4)

abbrev pub is_within : (low high b : ℕ) → Bool
is_within low high b = nat_le low b && nat_le b high

abbrev pub is_tail : ℕ → Bool
is_tail b = is_within 128 191 b

-- the least and the greatest byte that may come after the first byte
abbrev pub least_second : (first : ℕ) → ℕ
least_second a = if a == 224 then 160 else (if a == 240 then 144 else 128)

abbrev pub greatest_second : (first : ℕ) → ℕ
greatest_second a = if a == 237 then 159 else (if a == 244 then 143 else 191)

abbrev pub is_second : (first b : ℕ) → Bool
is_second a b = is_within (least_second a) (greatest_second a) b

-- how many bytes the character has that begins with these; 0 if none of two or more begins
abbrev pub size_by : (a b c d : ℕ) → ℕ
size_by a b c d =
    if is_within 194 223 a && is_second a b then 2
    else (if is_within 224 239 a && is_second a b && is_tail c then 3
    else (if is_within 240 244 a && is_second a b && is_tail c && is_tail d then 4 else 0))

abbrev pub byte_at : List ℕ → ℕ → ℕ
byte_at bytes i = get_or bytes i 0

unfoldable pub character_size : List ℕ → ℕ → ℕ
character_size bytes i =
    size_by (byte_at bytes i) (byte_at bytes (i + 1)) (byte_at bytes (i + 2)) (byte_at bytes (i + 3))

-- the character that begins this many bytes before byte i has it
abbrev pub is_reached : List ℕ → (i back : ℕ) → Bool
is_reached bytes i back = nat_lt back (character_size bytes (i - back))

-- byte i is one of a character of two bytes or more
unfoldable pub is_in_character : List ℕ → ℕ → Bool
is_in_character bytes i =
    is_reached bytes i 0 || is_reached bytes i 1 || is_reached bytes i 2 || is_reached bytes i 3

-- ---- strings

-- two digits of base 16
abbrev pub hex_text : ℕ → List ℕ
hex_text b = digit_code (b / 16) ∷ digit_code (b % 16) ∷ []

-- a byte, which is or isn't one of a character of two bytes or more: a quote and a backslash after
-- a backslash, a control character as `\u001f`, and one that is no part of UTF-8 as `\udc80`
unfoldable pub escaped : (b : ℕ) → (is_in : Bool) → List ℕ
escaped b is_in =
    if b == 34 || b == 92 then 92 ∷ b ∷ []
    else (if nat_lt b 32 then codes "\\u00" ++ hex_text b
    else (if nat_lt b 128 || is_in then b ∷ [] else codes "\\udc" ++ hex_text b))

unfoldable pub byte_text : List ℕ → (i : ℕ) → List ℕ
byte_text bytes i = escaped (byte_at bytes i) (is_in_character bytes i)

unfoldable pub string_text : List ℕ → List ℕ
string_text bytes = codes "\"" ++ (flat_map (byte_text bytes) (numbers_below (length bytes)) ++ codes "\"")

-- ---- objects

abbrev pub member : (name value : List ℕ) → List ℕ
member name value = codes "\"" ++ (name ++ (codes "\":" ++ value))

-- the members of an object, with a comma between each two, and the brace that ends it
abbrev pub members_text : List (List ℕ) → List ℕ
members_text [] = codes "}"
members_text (m ∷ []) = m ++ codes "}"
members_text (m ∷ n ∷ ns) = m ++ (codes "," ++ members_text (n ∷ ns))

abbrev pub object : (members : List (List ℕ)) → List ℕ
object members = codes "{" ++ members_text members

-- ---- arrays

-- an item after the first
abbrev pub next_item : {A : Type 0} → (text : A → List ℕ) → A → List ℕ
next_item text x = codes "," ++ text x

-- an array of one item or more
abbrev pub filled : {A : Type 0} → (text : A → List ℕ) → A → List A → List ℕ
filled text x xs = codes "[" ++ (text x ++ (flat_map (next_item text) xs ++ codes "]"))

abbrev pub array : {A : Type 0} → (text : A → List ℕ) → (items : List A) → List ℕ
array text [] = codes "[]"
array text (x ∷ xs) = filled text x xs
