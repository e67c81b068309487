-- What the options of `serve` mean, by the rows of `clap`'s matches.
use Rattle.std.specs.Prelude.{◌≡◌, ◌⊎◌, ℕ, ◌<◌, Bool, true, false, ◌&&◌, ◌||◌, bytes_eq, nat_le, List, [], ◌∷◌, map, take, length, get_or, codes, Option, Some, None, option_map, is_some, IsSome, MatchOption, if◌then◌else◌}
use Rattle.std.specs.Str.{byte}
use Rattle.std.specs.List.{list_all, list_any, slice_split}
use Rattle.std.specs.Net.Grammar.{IsSocketText}
use Rattle.std.specs.declared.net.socket_addr.SocketAddr.{SocketAddr}
use Rattle.clap.specs.Words.{Row, Text}
use Rattle.access_log.specs.declared.format.LogFormat.{LogFormat}
use Rattle.access_log.specs.declared.format.LogFormat.TheVariants as format
use Rattle.edge_types.specs.Halves.{around}
use Rattle.edge_types.specs.declared.head_fields.HeadField.{HeadField}
use Rattle.edge_setup.specs.Lists.{is_comma}
use Rattle.edge_setup.specs.Numbers.{all_said, numbers, place_of, row_of, said_of}
use Rattle.edge_setup.specs.Options.{all_words_said, is_flag_set, word_said}
use Rattle.edge_setup.specs.Said.{SaysFlags, SaysNumbers}
use Rattle.edge_types.specs.Token.{is_token}
use Rattle.edge_setup.specs.OriginWord.{is_authority, is_name, IsFaultOf, IsPlace}
use Rattle.edge_setup.specs.OriginWord.{refusal_of as origin_refusal}
use Rattle.edge_setup.specs.PassedNames.{are_passed}
use Rattle.edge_setup.specs.Private.{cookies_said, has_private, prefixes_said}
use Rattle.edge_setup.specs.SentFields.{sent_said, AreSent}
use Rattle.edge_setup.specs.ToldFields.{lower_told, told_said}
use Rattle.edge_setup.specs.declared.origin.OriginFault.{OriginFault}
use Rattle.edge_setup.specs.declared.origin.OriginFault.TheVariants as origin_fault
use Rattle.edge_setup.specs.declared.origin.Place.{Place}
use Rattle.edge_setup.specs.declared.private.Private.{Private}
use Rattle.edge_setup.specs.declared.setup.Addresses.{Addresses}
use Rattle.edge_setup.specs.declared.setup.Origin.{Origin}
use Rattle.edge_setup.specs.declared.flag.Flag.TheVariants as flag
use Rattle.edge_setup.specs.declared.number.Number.{Number}
use Rattle.edge_setup.specs.declared.setup.Setup.{Setup}
use Rattle.edge_setup.specs.declared.word.Word.TheVariants as word
use Rattle.edge_setup.specs.declared.words.Tokens.{Tokens}
use Rattle.edge_setup.specs.declared.setup.Named.{Named}
use Rattle.edge_setup.specs.declared.setup.Named.TheVariants as named
use Rattle.edge_setup.specs.declared.setup.SetupFault.{SetupFault}
use Rattle.edge_setup.specs.declared.setup.SetupFault.TheVariants as fault

-- ---- the log

-- the format of the log that a word names; without a word, lines where a log is asked for
abbrev pub log_of : Bool → Option Text → Option (Option LogFormat)
log_of is_asked None = Some (if is_asked then Some format.Line else None)
log_of is_asked (Some word) =
    if bytes_eq word (codes "line") then Some (Some format.Line)
    else (if bytes_eq word (codes "combined") then Some (Some format.Combined)
    else (if bytes_eq word (codes "json") then Some (Some format.Json)
    else None))

-- the log that the options ask for
abbrev pub log_said : List Row → Option (Option LogFormat)
log_said rows = log_of (is_flag_set flag.Log rows) (word_said word.LogFormat rows)

-- ---- names

-- the name of an edge or of a field that a word writes: a token of at most 64 bytes; without a word there is none
abbrev pub token_of : Option Text → Option (Option Text)
token_of None = Some None
token_of (Some word) = if is_token word && nat_le (length word) 64 then Some (Some word) else None

-- ---- the operator's hosts

-- names of hosts, with commas between
unfoldable pub are_hosts : Text → Bool
are_hosts text = list_all is_name (slice_split is_comma text)

-- the names of hosts that a word writes, where the operator is answered; without a word there are none
abbrev pub hosts_of : Bool → Option Text → Option (Option Text)
hosts_of has_admin None = Some None
hosts_of has_admin (Some word) = if has_admin && are_hosts word then Some (Some word) else None

-- the names that the options give
abbrev pub hosts_said : List Row → Option (Option Text)
hosts_said rows = hosts_of (is_some (word_said word.Admin rows)) (word_said word.AdminHost rows)

-- ---- the fields that are passed

-- the names of fields that a word writes, where there are private URLs or none; without a word there are none
abbrev pub fields_of : Bool → Option Text → Option (Option Text)
fields_of is_private None = Some None
fields_of is_private (Some word) = if are_passed is_private word then Some (Some word) else None

-- the names that the options give
abbrev pub fields_said : List Row → Option (Option Text)
fields_said rows = fields_of (has_private rows) (word_said word.PassFields rows)

-- ---- addresses

-- the word is an address, by std's grammar
abbrev pub IsAddress : Option Text → SocketAddr → Type 0
IsAddress None address = ⊥
IsAddress (Some word) address = IsSocketText word address

-- where the operator is answered, by a word: at the address that it is; without a word, nowhere
abbrev pub IsAdmin : Option Text → Option SocketAddr → Type 0
IsAdmin word admin = MatchOption admin (word ≡ None) (IsAddress word)

-- there is a word, and it is no address
abbrev pub IsNoAdmin : Option Text → Type 0
IsNoAdmin word = IsSome word × ((address : SocketAddr) → IsAddress word address → ⊥)

-- the word is an authority and a place, with its first `=` between them
pub record NamesOrigin (word : Text) (authority : List ℕ) (place : Place) : Type 0 where
  pub last : Text
  pub cut : around (byte "=") word ≡ Some (authority, last)
  pub written : is_authority authority ≡ true
  pub named : IsPlace last place

-- the word names an origin, or something is wrong with it
abbrev pub IsJudged : Text → Bool → Type 0
IsJudged word true = (authority : List ℕ) × (place : Place) × NamesOrigin word authority place
IsJudged word false = (f : OriginFault) × IsFaultOf word f

-- the words name these origins, in order
abbrev pub AreOrigins : List Text → List Origin → Type 0
AreOrigins [] [] = Unit {0}
AreOrigins [] (o ∷ os) = ⊥
AreOrigins (w ∷ ws) [] = ⊥
AreOrigins (w ∷ ws) (o ∷ os) = NamesOrigin w o.authority.items o.place × AreOrigins ws os

-- a text comes twice among these
abbrev pub stands_twice : List Text → Bool
stands_twice [] = false
stands_twice (t ∷ ts) = list_any (bytes_eq t) ts || stands_twice ts

-- the authorities by which origins are chosen
abbrev pub authorities : List Origin → List Text
authorities origins = map (λ origin. origin.authority.items) origins

-- the words of the option name these origins, each authority once; without the option there are none
abbrev pub SayOrigins : Option (List Text) → List Origin → Type 0
SayOrigins None origins = origins ≡ []
SayOrigins (Some words) origins = AreOrigins words origins × (stands_twice (authorities origins) ≡ false)

-- the words of the option don't name such origins
abbrev pub SayNoOrigins : Option (List Text) → Type 0
SayNoOrigins words = (origins : List Origin) → SayOrigins words origins → ⊥

-- the first words name an authority twice
abbrev pub NameTwice : List Text → Type 0
NameTwice words = (n : ℕ) × (origins : List Origin) × AreOrigins (take n words) origins × (stands_twice (authorities origins) ≡ true)

-- this is wrong with one of the words
abbrev pub IsFaultIn : List Text → OriginFault → Type 0
IsFaultIn words f = (n : ℕ) × (n < length words) × IsFaultOf (get_or words n []) f

-- this is wrong with the words of the option
abbrev pub IsOriginFault : Option (List Text) → OriginFault → Type 0
IsOriginFault None f = ⊥
IsOriginFault (Some words) f = ((f ≡ origin_fault.Twice) × NameTwice words) ⊎ IsFaultIn words f

-- ---- the options

-- where the server listens, and where it answers its operator
pub record SaysAddresses (rows : List Row) (addresses : Addresses) : Type 0 where
  pub listen_is : IsAddress (word_said word.Listen rows) addresses.listen
  pub admin_is : IsAdmin (word_said word.Admin rows) addresses.admin

-- the names of the edge, of the field by which a proxy names clients, of the operator's hosts, and of the fields that are passed
pub record SaysTokens (rows : List Row) (tokens : Tokens) : Type 0 where
  pub name_is : token_of (word_said word.Name rows) ≡ Some (option_map (λ name. name.now) tokens.name)
  pub forwarded_is : token_of (word_said word.Forwarded rows) ≡ Some (option_map (λ field. field.now) tokens.forwarded)
  pub hosts_are : hosts_said rows ≡ Some (option_map (λ hosts. hosts.now) tokens.hosts)
  pub fields_are : fields_said rows ≡ Some (option_map (λ fields. fields.now) tokens.fields)

-- the URLs that are one reader's own, and the names of the cookies and of the reader's fields with which they are fetched
pub record SaysPrivate (rows : List Row) (private : Private) : Type 0 where
  pub prefixes_are : prefixes_said rows ≡ Some private.prefixes.items
  pub cookies_are : cookies_said rows ≡ Some (option_map (λ cookies. cookies.now) private.cookies)
  pub told_are : told_said rows ≡ Some (option_map (λ names. names.now) private.told)

-- the fields that requests carry are those that the options give, and they may
abbrev pub SaysSent : List Row → List HeadField → Type 0
SaysSent rows fields = (fields ≡ sent_said rows) × AreSent (sent_said rows)

-- what the options ask for
pub record SaysSetup (rows : List Row) (setup : Setup) : Type 0 where
  pub addresses_are : SaysAddresses rows setup.addresses
  pub origins_are : SayOrigins (all_words_said word.Origin rows) setup.origins.items
  pub numbers_are : SaysNumbers rows setup.numbers
  pub flags_are : SaysFlags rows setup.flags
  pub log_is : log_said rows ≡ Some setup.log
  pub name_is : token_of (word_said word.Name rows) ≡ Some (option_map (λ name. name.items) setup.name)
  pub forwarded_is : token_of (word_said word.Forwarded rows) ≡ Some (option_map (λ field. field.items) setup.forwarded)
  pub hosts_are : hosts_said rows ≡ Some (option_map (λ hosts. hosts.items) setup.admin_hosts)
  pub fields_are : fields_said rows ≡ Some (option_map (λ fields. fields.items) setup.pass_fields)
  pub sent_are : SaysSent rows setup.send_fields
  pub private_are : prefixes_said rows ≡ Some setup.private.prefixes.items
  pub cookies_are : cookies_said rows ≡ Some (option_map (λ cookies. cookies.items) setup.private.cookies)
  pub told_are : lower_told rows ≡ Some (option_map (λ names. names.items) setup.private.fields)

-- the value of an option is invalid
abbrev pub IsWrong : List Row → Named → Type 0
IsWrong rows named.Listen = (address : SocketAddr) → IsAddress (word_said word.Listen rows) address → ⊥
IsWrong rows named.Admin = IsNoAdmin (word_said word.Admin rows)
IsWrong rows (named.Origin fault) = SayNoOrigins (all_words_said word.Origin rows) × IsOriginFault (all_words_said word.Origin rows) fault
IsWrong rows (named.Number number) = said_of (row_of number) rows ≡ None
IsWrong rows named.LogFormat = log_said rows ≡ None
IsWrong rows named.Name = token_of (word_said word.Name rows) ≡ None
IsWrong rows named.Forwarded = token_of (word_said word.Forwarded rows) ≡ None
IsWrong rows named.AdminHost = hosts_said rows ≡ None
IsWrong rows named.PassFields = fields_said rows ≡ None
IsWrong rows named.SendFields = ¬ AreSent (sent_said rows)
IsWrong rows named.Private = prefixes_said rows ≡ None
IsWrong rows named.PrivateCookies = cookies_said rows ≡ None
IsWrong rows named.ForwardFields = told_said rows ≡ None

-- the values of these options are valid
abbrev pub HasListen : List Row → Type 0
HasListen rows = (address : SocketAddr) × IsAddress (word_said word.Listen rows) address

abbrev pub HasAdmin : List Row → Type 0
HasAdmin rows = (admin : Option SocketAddr) × IsAdmin (word_said word.Admin rows) admin

abbrev pub HasAddresses : List Row → Type 0
HasAddresses rows = HasListen rows × HasAdmin rows

abbrev pub HaveValues : List Row → List Number → Type 0
HaveValues rows options = (values : List (Option ℕ)) × (all_said rows options ≡ map Some values)

abbrev pub HasNumbers : List Row → Type 0
HasNumbers rows = HaveValues rows numbers

abbrev pub HasLog : List Row → Type 0
HasLog rows = IsSome (log_said rows)

abbrev pub HasName : List Row → Type 0
HasName rows = IsSome (token_of (word_said word.Name rows))

abbrev pub HasForwarded : List Row → Type 0
HasForwarded rows = IsSome (token_of (word_said word.Forwarded rows))

abbrev pub HasHosts : List Row → Type 0
HasHosts rows = IsSome (hosts_said rows)

abbrev pub HasFields : List Row → Type 0
HasFields rows = IsSome (fields_said rows)

abbrev pub HasTokens : List Row → Type 0
HasTokens rows = HasName rows × HasForwarded rows × HasHosts rows × HasFields rows

abbrev pub HasPrefixes : List Row → Type 0
HasPrefixes rows = IsSome (prefixes_said rows)

abbrev pub HasCookies : List Row → Type 0
HasCookies rows = IsSome (cookies_said rows)

abbrev pub HasTold : List Row → Type 0
HasTold rows = IsSome (told_said rows)

abbrev pub HasPrivate : List Row → Type 0
HasPrivate rows = HasPrefixes rows × HasCookies rows × HasTold rows

abbrev pub HasSent : List Row → Type 0
HasSent rows = AreSent (sent_said rows)

-- the values of the options that are read before this one are valid
abbrev pub AreValidBefore : List Row → Named → Type 0
AreValidBefore rows named.Listen = Unit {0}
AreValidBefore rows named.Admin = HasListen rows
AreValidBefore rows (named.Number number) = HasAddresses rows × HaveValues rows (take (place_of number) numbers)
AreValidBefore rows named.LogFormat = HasAddresses rows × HasNumbers rows
AreValidBefore rows named.Name = HasAddresses rows × HasNumbers rows × HasLog rows
AreValidBefore rows named.Forwarded = HasAddresses rows × HasNumbers rows × HasLog rows × HasName rows
AreValidBefore rows named.AdminHost = HasAddresses rows × HasNumbers rows × HasLog rows × HasName rows × HasForwarded rows
AreValidBefore rows named.PassFields = HasAddresses rows × HasNumbers rows × HasLog rows × HasName rows × HasForwarded rows × HasHosts rows
AreValidBefore rows named.Private = HasAddresses rows × HasNumbers rows × HasLog rows × HasTokens rows
AreValidBefore rows named.PrivateCookies = HasAddresses rows × HasNumbers rows × HasLog rows × HasTokens rows × HasPrefixes rows
AreValidBefore rows named.ForwardFields = HasAddresses rows × HasNumbers rows × HasLog rows × HasTokens rows × HasPrefixes rows × HasCookies rows
AreValidBefore rows named.SendFields = HasAddresses rows × HasNumbers rows × HasLog rows × HasTokens rows × HasPrivate rows
AreValidBefore rows (named.Origin fault) = HasAddresses rows × HasNumbers rows × HasLog rows × HasTokens rows × HasPrivate rows × HasSent rows

-- this is the first option, in the order of reading, whose value is invalid
pub record IsFirstWrong (rows : List Row) (option : Named) : Type 0 where
  pub wrong : IsWrong rows option
  pub before : AreValidBefore rows option

-- the line for an option whose words are no use
abbrev pub refusal_of : Named → Text
refusal_of named.Listen = codes "error: --listen takes an address with a port, as 127.0.0.1:8080"
refusal_of named.Admin = codes "error: --admin takes an address with a port, as 127.0.0.1:9090"
refusal_of (named.Origin fault) = origin_refusal fault
refusal_of (named.Number number) = (row_of number).refusal
refusal_of named.LogFormat = codes "error: --log-format takes line, combined or json"
refusal_of named.Name = codes "error: --name takes 1 to 64 letters, digits and marks of a token, as edge-1"
refusal_of named.Forwarded = codes "error: --forwarded takes the name of a field, as x-forwarded-for"
refusal_of named.AdminHost = codes "error: --admin-host takes names of hosts with commas between, as edge.internal,edge-1, beside --admin"
refusal_of named.PassFields = codes "error: --pass-fields takes field names with commas between, as location,cache-control, none of a connection, of a body's length, type or coding, nor set-cookie without --private"
refusal_of named.SendFields = codes "error: --send-fields takes a field with a value, as x-forwarded-proto: https, and at most 8192 bytes of fields; none that the edge sets, nor one of a connection, a body, a condition or a range"
refusal_of named.Private = codes "error: --private takes URL prefixes with commas between, as http://shop.test/box/, each with its host and a / at its end"
refusal_of named.PrivateCookies = codes "error: --private-cookies takes names of cookies with commas between, as SHOPSESS, beside --private"
refusal_of named.ForwardFields = codes "error: --forward-fields takes names of fields with commas between, as x-forwarded-for,user-agent, beside --private; none that the edge sets, nor one of a connection, a body, a condition or a range"

-- why the options are refused
abbrev pub IsRefusedBy : List Row → SetupFault → Type 0
IsRefusedBy rows (fault.Wrong option) = IsFirstWrong rows option
IsRefusedBy rows fault.NoMemory = Unit {0}

-- why the numbers of the options are refused: this is the first that is invalid
abbrev pub IsRefusedNumber : List Row → SetupFault → Type 0
IsRefusedNumber rows (fault.Wrong (named.Number number)) = (said_of (row_of number) rows ≡ None) × HaveValues rows (take (place_of number) numbers)
IsRefusedNumber rows (fault.Wrong option) = ⊥
IsRefusedNumber rows fault.NoMemory = Unit {0}
