-- Which methods there are, and which of them a route has (RFC 9110, sections 9.1 and 10.2.1).
use Rattle.std.specs.Prelude.{ℕ, Bool, List, [], ◌∷◌, codes, bytes_eq, Option}
use Rattle.std.specs.List.{find, join_by, list_any}
use Rattle.nf_words.specs.declared.route.Route.{Route}
use Rattle.nf_words.specs.declared.route.Route.TheVariants as route
use Rattle.nf_routes.specs.declared.methods.Method.{Method}
use Rattle.nf_routes.specs.declared.methods.Method.TheVariants.{Get, Put, Mkcol, Delete, Move, Copy, Post}

abbrev pub name_of : Method → List ℕ
name_of Get = codes "GET"
name_of Put = codes "PUT"
name_of Mkcol = codes "MKCOL"
name_of Delete = codes "DELETE"
name_of Move = codes "MOVE"
name_of Copy = codes "COPY"
name_of Post = codes "POST"

abbrev pub has_name : List ℕ → Method → Bool
has_name bytes method = bytes_eq bytes (name_of method)

-- the method of this name, exactly so
abbrev pub method_of : List ℕ → Option Method
method_of bytes = find (has_name bytes) (Get ∷ Put ∷ Mkcol ∷ Delete ∷ Move ∷ Copy ∷ Post ∷ [])

-- the methods of a route
abbrev pub methods_of : Route → List Method
methods_of route.Files = Get ∷ Put ∷ Mkcol ∷ Delete ∷ Move ∷ Copy ∷ []
methods_of route.Public = Get ∷ Put ∷ Mkcol ∷ Delete ∷ Move ∷ Copy ∷ []
methods_of route.Upload = Mkcol ∷ Delete ∷ []
methods_of route.Chunk = Put ∷ Move ∷ []
methods_of route.Assembly = Put ∷ Move ∷ []
methods_of route.Trash = Get ∷ Delete ∷ []
methods_of route.TrashItem = Delete ∷ Move ∷ []
methods_of route.Versions = Get ∷ []
methods_of route.Version = Get ∷ Move ∷ []
methods_of route.Shares = Get ∷ Post ∷ []
methods_of route.Share = Get ∷ Put ∷ Delete ∷ []
methods_of route.Users = Post ∷ []
methods_of route.User = Put ∷ []
methods_of route.Memberships = Post ∷ Delete ∷ []
methods_of route.Groups = Post ∷ []

-- the value of the field Allow of a route: the names of its methods
abbrev pub allow_of : Route → List ℕ
allow_of route = join_by name_of (codes ", ") (methods_of route)

-- whether the route has the method
abbrev pub takes : Route → Method → Bool
takes route method = list_any (has_name (name_of method)) (methods_of route)
