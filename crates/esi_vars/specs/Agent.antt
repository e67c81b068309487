-- What the user agent's field says about browser, version and system. The names are those of the ESI Language
-- Specification 1.0, "Variables"; how they are found is our profile.
use Rattle.std.specs.Prelude.{ℕ, Bool, ◌||◌, nat_eq, List, [], ◌∷◌, length, drop, codes, bytes_eq, Option, Some, None, is_some, if◌then◌else◌}
use Rattle.std.specs.List.{starts_with, take_while}
use Rattle.esi_vars.specs.declared.agent.Browser.{Browser}
use Rattle.esi_vars.specs.declared.agent.Browser.TheVariants.{Msie, Mozilla, Other}
use Rattle.esi_vars.specs.Reference.{is_version_byte}

-- what follows the first occurrence of the word
unfoldable pub behind : List ℕ → List ℕ → Option (List ℕ)
behind word [] = None
behind word (b ∷ bs) = if starts_with nat_eq (b ∷ bs) word then Some (drop (length word) (b ∷ bs)) else behind word bs

-- the word occurs in the text
abbrev pub has : List ℕ → List ℕ → Bool
has word text = is_some (behind word text)

-- the kind of an agent, by the first word that it has
unfoldable pub browser_of : List ℕ → Browser
browser_of agent = if has (codes "MSIE") agent then Msie else (if has (codes "Mozilla") agent then Mozilla else Other)

-- the standard's name of a browser
abbrev pub browser_name : Browser → List ℕ
browser_name Msie = codes "MSIE"
browser_name Mozilla = codes "MOZILLA"
browser_name Other = codes "OTHER"

-- the digits and points at the front of what was found
abbrev pub version_at : Option (List ℕ) → List ℕ
version_at None = []
version_at (Some text) = take_while is_version_byte text

-- the version after the browser's mark
abbrev pub version_of : Browser → List ℕ → List ℕ
version_of Msie agent = version_at (behind (codes "MSIE ") agent)
version_of Mozilla agent = version_at (behind (codes "Mozilla/") agent)
version_of Other agent = []

-- the standard's name of a system
unfoldable pub system_of : List ℕ → List ℕ
system_of agent =
    if has (codes "Windows") agent then codes "WIN"
    else (if has (codes "Mac") agent then codes "MAC"
    else (if has (codes "X11") agent || (has (codes "Linux") agent || has (codes "Unix") agent) then codes "UNIX"
    else codes "OTHER"))

-- what a field that is not empty says under a key
abbrev pub agent_text : List ℕ → List ℕ → List ℕ
agent_text key agent =
    if bytes_eq key (codes "browser") then browser_name (browser_of agent)
    else (if bytes_eq key (codes "version") then version_of (browser_of agent) agent
    else (if bytes_eq key (codes "os") then system_of agent
    else []))

-- what the field of an agent says under a key; an empty field says nothing
unfoldable pub agent_value : List ℕ → List ℕ → List ℕ
agent_value key [] = []
agent_value key (b ∷ bs) = agent_text key (b ∷ bs)
