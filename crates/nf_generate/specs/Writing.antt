-- The bytes of a message.
use Rattle.std.specs.Prelude.{ℕ, ◌+◌, ◌%◌, List, [], ◌++◌, map, length, codes, decimal}
use Rattle.std.specs.List.{range_with_len}
use Rattle.nf_generate.specs.Drawing.{behind, name_of}
use Rattle.nf_generate.specs.declared.drawing.Act.{Act}
use Rattle.nf_generate.specs.declared.drawing.Act.TheVariants as act
use Rattle.nf_generate.specs.declared.drawing.Drawing.{Drawing}
use Rattle.nf_generate.specs.declared.drawing.User.{User}

-- where a user's files are, and one of them: `/f` or `/m` and a number
abbrev pub root : User → List ℕ
root user = codes "/remote.php/dav/files/" ++ name_of user ++ codes "/"

abbrev pub path : User → List ℕ → ℕ → List ℕ
path user letter file = codes "/remote.php/dav/files/" ++ name_of user ++ letter ++ decimal file

-- the lines of a head (RFC 9112, section 3; RFC 6750, section 2.1; RFC 9110, section 8.6)
abbrev pub request_line : List ℕ → List ℕ → List ℕ
request_line method target = method ++ codes " " ++ target ++ codes " HTTP/1.1\r\n"

abbrev pub bearer_line : User → List ℕ
bearer_line user = codes "Authorization: Bearer " ++ name_of user ++ codes "-1\r\n"

abbrev pub length_line : ℕ → List ℕ
length_line n = codes "Content-Length: " ++ decimal n ++ codes "\r\n"

-- the head, with lines of its own, of a message with a body of n bytes
abbrev pub head : List ℕ → List ℕ → User → List ℕ → ℕ → List ℕ
head method target user own n =
    request_line method target ++ (bearer_line user ++ (own ++ (length_line n ++ codes "\r\n")))

-- n bytes, of which each is one more than the one before, modulo 256, from the message's number on
abbrev pub content : ℕ → ℕ → List ℕ
content index n = map (λ j. (index + j) % 256) (range_with_len 0 n)

abbrev pub put_bytes : List ℕ → User → ℕ → ℕ → List ℕ
put_bytes file user index n = head (codes "PUT") file user [] n ++ content index n

-- where a file is moved to (RFC 4918, section 10.3)
abbrev pub destination : User → ℕ → List ℕ
destination user file = codes "Destination: " ++ path user (codes "/m") file ++ codes "\r\n"

abbrev pub share_body : User → ℕ → List ℕ
share_body user file =
    codes "path=%2Ff" ++ decimal file ++ codes "&shareType=0&shareWith=" ++ name_of (behind user) ++ codes "&permissions=3"

abbrev pub share_bytes : User → ℕ → List ℕ
share_bytes user file =
    head (codes "POST") (codes "/ocs/v2.php/apps/files_sharing/api/v1/shares") user (codes "OCS-APIRequest: true\r\n") (length (share_body user file))
    ++ share_body user file

-- what is asked of that file
abbrev pub act_bytes : ℕ → User → ℕ → Act → List ℕ
act_bytes index user file (act.Put size) = put_bytes (path user (codes "/f") file) user index size
act_bytes index user file act.Get = head (codes "GET") (path user (codes "/f") file) user [] 0
act_bytes index user file act.Delete = head (codes "DELETE") (path user (codes "/f") file) user [] 0
act_bytes index user file act.Move = head (codes "MOVE") (path user (codes "/f") file) user (destination user file) 0
act_bytes index user file act.Share = share_bytes user file
act_bytes index user file act.List = head (codes "GET") (root user) user [] 0

abbrev pub message_bytes : ℕ → Drawing → List ℕ
message_bytes index drawing = act_bytes index drawing.user drawing.file drawing.act
